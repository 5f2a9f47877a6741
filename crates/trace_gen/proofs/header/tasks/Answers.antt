use Rattle.std.proofs.Common.{◌∙◌, ap, sym, List, ℕ, ◌++◌, arith, codes}
use Rattle.trace_gen.specs.GeneratedHeader.{task_line}
use Rattle.trace_gen.proofs.Fronts.{more_tasks}
use Rattle.trace_gen.proofs.header.tasks.Goals as goal

pub loop-pid-preserved : goal.loop-pid-preserved
loop-pid-preserved c = record {
  first = omega arith;
  most = omega arith;
  tasks = c.in_ok-put_task.ensures ∙ ap (λ (t : List ℕ). t ++ (task_line c.loop-pid.pid ++ codes "\n")) c.loop-pid.invariant.tasks ∙ sym (more_tasks c.loop-pid.pid c.loop-pid.invariant.first);
}
