use Rattle.std.proofs.Common.{◌≡◌, ◌≤◌, ◌*◌, ◌-◌, ◌^◌, take, sum_by}
use Rattle.wakeup_pairs.specs.Figures.{latency}
use Rattle.wakeup_pairs.proofs.figures.total.Given as goal

abbrev pub invariant-loop-pair : goal.invariant-loop-pair
invariant-loop-pair l = record {
  value : l.total ≡ sum_by latency (take l.pair-index l.pairs);
  small : l.total ≤ l.pair-index * (2 ^ 64 - 1);
}
