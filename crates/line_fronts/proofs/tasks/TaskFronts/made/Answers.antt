use Rattle.std.proofs.Common.{◌∙◌, ap}
use Rattle.std.specs.Int.{w32}
use Rattle.std.proofs.lemmas.Int.{to_z-of_z}
use Rattle.line_fronts.specs.Tasks.{task_front}
use Rattle.line_fronts.proofs.tasks.TaskFronts.made.Goals as goal

pub returns-in-Some : goal.returns-in-Some
returns-in-Some c = λ show names are. c.in-Some.ensures show names are ∙ ap (task_front show names) (to_z-of_z w32 c.args.pid c.ranges.pid)

pub returns-in-None : goal.returns-in-None
returns-in-None c = λ show names are. tt
