use Rattle.std.proofs.Common.{ℕ, List, ◌++◌, ◌∙◌, ap, arith}
use Rattle.std.proofs.lemmas.List.{length-take, take_all}
use Rattle.line_fronts.proofs.with_task.put_task.Goals as goal

pub slice_bounds-prepend_text-end : goal.slice_bounds-prepend_text-end
slice_bounds-prepend_text-end c = omega (arith, c.if-task-eq-USUAL_TASK.true, length-take 22 c.args.task.now)

pub returns-then-task-eq-USUAL_TASK : goal.returns-then-task-eq-USUAL_TASK
returns-then-task-eq-USUAL_TASK c =
    c.prepend_text.ensures.value ∙ ap (λ (text : List ℕ). text ++ c.args.front.now) (take_all 22 c.args.task.now (omega (arith, c.if-task-eq-USUAL_TASK.true)))
