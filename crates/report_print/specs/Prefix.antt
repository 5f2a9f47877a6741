-- The columns of a line and what is put after them, in the parts in which they are put.
use Rattle.std.specs.Prelude.{ℕ, List, ◌++◌}
use Rattle.trace_base.specs.declared.common.Common.{Common}
use Rattle.line_fronts.specs.Tasks.{task_front}
use Rattle.line_fronts.specs.When.{when_of}
use Rattle.report_print.specs.ContextData.{ContextData}

-- the task, where and when it was, and what is said after them
abbrev pub columns : ContextData → ℕ → ℕ → Common → List ℕ → List ℕ
columns given cpu time common behind = task_front given.show given.symbols.tasks common.pid ++ (when_of given.show cpu time common ++ behind)
