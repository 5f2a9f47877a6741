use Rattle.std.proofs.Common.{ℤ, subst}
use Rattle.std.specs.Int.{w32}
use Rattle.std.proofs.lemmas.Int.{to_z-of_z}
use Rattle.report_print.specs.ContextData.{ContextData}
use Rattle.line_fronts.specs.Tasks.{IsStart}
use Rattle.report_print.proofs.context.Context.task_start.Goals as goal

pub returns : goal.returns
returns c =
    let inside = c.self.inside in
    subst (λ (given : ContextData). IsStart given.show given.symbols.tasks c.args.pid c.start.result) c.self.view_is
    (subst (λ (pid : ℤ). IsStart inside.show inside.symbols.tasks pid c.start.result) (to_z-of_z w32 c.args.pid c.ranges.pid)
    (c.start.ensures inside.show c.self.invariant.3))
