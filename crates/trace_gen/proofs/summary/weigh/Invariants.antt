use Rattle.std.proofs.Common.{◌≡◌, ◌≤◌, ◌+◌, ◌*◌}
use Rattle.trace_gen.specs.Summary.{weighted_sum}
use Rattle.trace_gen.proofs.Weighed.{weight_from}
use Rattle.trace_gen.proofs.summary.weigh.Given as goal

abbrev pub invariant-loop-place : goal.invariant-loop-place
invariant-loop-place l = record {
  sum : l.sum + weight_from l.place l.report ≡ weighted_sum l.report;
  small : l.sum ≤ l.place * 255000;
}
