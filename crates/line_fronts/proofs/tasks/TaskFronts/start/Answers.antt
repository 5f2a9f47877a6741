use Rattle.std.proofs.Common.{ℤ, sym, ap, subst, ◌∙◌}
use Rattle.std.specs.Int.{w32}
use Rattle.std.proofs.lemmas.Int.{to_z-of_z}
use Rattle.symbols.specs.Maps.{task_name}
use Rattle.line_fronts.specs.Tasks.{IsStart}
use Rattle.line_fronts.proofs.tasks.TaskFronts.start.Goals as goal

pub returns-in-Some : goal.returns-in-Some
returns-in-Some c = λ show are.
    let names = c.args.symbols.now.tasks in
    subst (λ (pid : ℤ). IsStart show names pid c.made.result) (to_z-of_z w32 c.args.pid c.ranges.pid) (c.made.ensures show names are)

pub returns-in-None : goal.returns-in-None
returns-in-None c = λ show are. ap (task_name c.args.symbols.now.tasks) (sym (to_z-of_z w32 c.args.pid c.ranges.pid)) ∙ c.in-None.ensures
