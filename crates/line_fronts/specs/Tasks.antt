-- A task as a line begins with it. Source: trace-cmd-report(1), for the columns and the options.
use Rattle.std.specs.Prelude.{◌≡◌, ℕ, ℤ, if◌then◌else◌, List, ◌++◌, map, codes, Option}
use Rattle.std.specs.Option.{option_map}
use Rattle.std.specs.Fmt.{signed_decimal}
use Rattle.symbols.specs.NameMap.{Pair}
use Rattle.symbols.specs.Maps.{task_name, unnamed}
use Rattle.line_columns.specs.Columns.{left, right}
use Rattle.line_fronts.specs.declared.show.Show.{Show}
use Rattle.line_fronts.specs.declared.tasks.TaskFront.{TaskFront}
use Rattle.line_fronts.specs.declared.tasks.TaskFronts.{TaskFronts}
use Rattle.line_fronts.specs.declared.tasks.TaskStart.{TaskStart}
use Rattle.line_fronts.specs.declared.tasks.TaskStart.TheVariants.{Made, Unnamed, Unknown}

-- how wide the column of its name is
abbrev pub task_width : Show → ℕ
task_width show = if show.line.latency then 8 else 16

-- its name at the right of its column, a dash, and its pid at the left of its own
abbrev pub named_front : Show → List ℕ → ℤ → List ℕ
named_front show name pid = right (task_width show) name ++ (codes "-" ++ left 5 (signed_decimal pid))

abbrev pub task_front : Show → List Pair → ℤ → List ℕ
task_front show names pid = named_front show (task_name names pid) pid

-- the text that is kept for a task, and the one that it is to be
abbrev pub text_of : TaskFront → List ℕ
text_of front = front.text

abbrev pub front_of : Show → List Pair → TaskFront → List ℕ
front_of show names front = task_front show names front.pid

-- the text of a task, if there is one, is its own
abbrev pub IsFront : Show → List Pair → Option TaskFront → Type 0
IsFront show names front = option_map text_of front ≡ option_map (front_of show names) front

-- all texts are those of their tasks
abbrev pub AreFronts : Show → List Pair → List (Option TaskFront) → Type 0
AreFronts show names fronts = map (option_map text_of) fronts ≡ map (option_map (front_of show names)) fronts

abbrev pub AreTaskFronts : Show → List Pair → TaskFronts → Type 0
AreTaskFronts show names tasks = AreFronts show names tasks.fronts.items

-- what is known of a task is so
abbrev pub IsStart : Show → List Pair → ℤ → TaskStart → Type 0
IsStart show names pid (Made text) = text.now ≡ task_front show names pid
IsStart show names pid Unnamed = task_name names pid ≡ unnamed
IsStart show names pid Unknown = Unit {0}
