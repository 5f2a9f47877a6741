use Rattle.std.proofs.Common.{◌+◌, ◌∙◌, ap, sym, min, subst}
use Rattle.tournament_tree.proofs.Scanning.{IsLeastSoFar, looked_at, passed_over, same_some}
use Rattle.tournament_tree.proofs.marks.least_mark.Goals as goal
use Rattle.tournament_tree.proofs.marks.least_mark.Goals.{then-ne, else-ne}

pub loop-i-preserved : goal.loop-i-preserved
loop-i-preserved c = elim c.if-ne.branch [
  | then-ne w ↦ looked_at c.args.keys.now c.args.but c.loop-i.i c.loop-i.least c.if-ne.least c.loop-i-test.true c.loop-i.invariant
      (w.least-is ∙ w.min-least.ensures ∙ ap (min c.loop-i.least) w.mark_of.ensures.value)
  | else-ne w ↦ subst (IsLeastSoFar c.args.keys.now c.args.but (c.loop-i.i + 1)) (sym w.least-is)
      (passed_over c.args.keys.now c.args.but c.loop-i.i c.loop-i.least (same_some c.args.but c.loop-i.i (sym w.if-ne.false ∙ c.ne.ensures)) c.loop-i.invariant)
]
