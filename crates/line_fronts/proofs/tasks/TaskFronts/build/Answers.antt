use Rattle.std.proofs.Common.{sym, subst}
use Rattle.line_fronts.specs.Tasks.{AreFronts}
use Rattle.line_fronts.proofs.TaskTexts.{one_more}
use Rattle.line_fronts.proofs.tasks.TaskFronts.build.Goals as goal

pub returns : goal.returns
returns c =
    let show = c.args.show.now in
    let names = c.args.symbols.now.tasks in
    subst (AreFronts show names) (sym c.in_ok-push.ensures.items)
    (one_more show names c.in_ok-fronts.fronts.items c.in_ok-of.field-0 c.in_ok-fronts.ensures c.in_ok-of.ensures)
