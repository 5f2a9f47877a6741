use Rattle.std.proofs.Common.{rules}
use Rattle.std.specs.Prelude.{codes}
use Rattle.wakeup_lat.specs.Section.{extreme_line}
use Rattle.trace_outside.proofs.Putting.{put_both, stopped_first}
use Rattle.wakeup_lat.proofs.section.put_extremes.Goals as goal

pub returns-in_err-put_extreme : goal.returns-in_err-put_extreme
returns-in_err-put_extreme g c = record {
  puts = rw (← c.longest-most.ensures, ← c.shortest-least.ensures)
      (stopped_first (extreme_line (codes "maximum ") c.args.full c.longest-most.result) (extreme_line (codes "minimum ") c.args.full c.shortest-least.result) _ _ _ _
      c.from_residual.result c.from_residual.ensures.0 c.in_err-put_extreme.ensures.puts);
  name = search rules;
  cause = search rules;
}

pub returns : goal.returns
returns g c = record {
  puts = rw (← c.longest-most.ensures, ← c.shortest-least.ensures)
      (put_both (extreme_line (codes "maximum ") c.args.full c.longest-most.result) (extreme_line (codes "minimum ") c.args.full c.shortest-least.result) _ _ _ _ _ _
      c.put_extreme-2.result c.in_ok-put_extreme.ensures.puts c.put_extreme-2.ensures.puts);
  name = search rules;
  cause = search rules;
}
