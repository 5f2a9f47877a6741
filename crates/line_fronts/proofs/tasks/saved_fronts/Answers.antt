use Rattle.std.proofs.Common.{sym, subst}
use Rattle.line_fronts.specs.Tasks.{AreFronts}
use Rattle.line_fronts.proofs.TaskTexts.{one_more}
use Rattle.line_fronts.proofs.tasks.saved_fronts.Goals as goal

pub loop-place-preserved : goal.loop-place-preserved
loop-place-preserved c =
    let show = c.args.show.now in
    let names = c.args.symbols.now.tasks in
    subst (AreFronts show names) (sym c.in_ok-push.ensures.items)
    (one_more show names c.loop-place.fronts.items c.in_ok-nth_front.field-0 c.loop-place.invariant c.in_ok-nth_front.ensures)
