use Rattle.std.proofs.Common.{◌≡◌, ◌≤◌}
use Rattle.trace_gen.proofs.Fronts.{tasks_before}
use Rattle.trace_gen.proofs.header.tasks.Given as goal

abbrev pub invariant-loop-pid : goal.invariant-loop-pid
invariant-loop-pid l = record {
  first : 1 ≤ l.pid;
  most : l.pid ≤ 100;
  tasks : l.text.items ≡ tasks_before l.pid;
}
