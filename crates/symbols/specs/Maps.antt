-- The names that the texts of a trace file give: symbols and printk formats by address, of equal addresses the first, and tasks
-- by pid, of equal pids the last.
use Rattle.std.specs.Prelude.{ℕ, zero, ℤ, pos, negsuc, List, reverse, codes}
use Rattle.std.specs.Option.{unwrap_or}
use Rattle.text_lines.specs.Lines.{lines_of}
use Rattle.symbols.specs.NameMap.{Pair, first_at, IsMapOf, map_of}
use Rattle.symbols.specs.Forms.{pairs_in}
use Rattle.symbols.specs.declared.lines.Form.TheVariants.{Kallsyms, Printk, Tasks}

pub record Maps : Type 0 where
  pub symbols : List Pair
  pub printk : List Pair
  pub tasks : List Pair

abbrev pub symbols_in : List ℕ → List Pair
symbols_in kallsyms = pairs_in Kallsyms (lines_of kallsyms)

abbrev pub formats_in : List ℕ → List Pair
formats_in printk = pairs_in Printk (lines_of printk)

abbrev pub tasks_in : List ℕ → List Pair
tasks_in cmdlines = pairs_in Tasks (lines_of cmdlines)

-- these are the maps of the three texts
pub record AreMapsOf (kallsyms printk cmdlines : List ℕ) (maps : Maps) : Type 0 where
  pub symbols_are : IsMapOf (symbols_in kallsyms) maps.symbols
  pub printk_are : IsMapOf (formats_in printk) maps.printk
  pub tasks_are : IsMapOf (reverse (tasks_in cmdlines)) maps.tasks

-- the same, computed
unfoldable pub maps_of : List ℕ → List ℕ → List ℕ → Maps
maps_of kallsyms printk cmdlines = record {
  symbols = map_of (symbols_in kallsyms);
  printk = map_of (formats_in printk);
  tasks = map_of (reverse (tasks_in cmdlines));
}

-- what trace-cmd-report(1) shows of a task whose name was not saved
abbrev pub unnamed : List ℕ
unnamed = codes "<...>"

-- the name of a task: that of the idle task is never looked up, and no pid below 0 was saved
abbrev pub task_name : List Pair → ℤ → List ℕ
task_name tasks (pos zero) = codes "<idle>"
task_name tasks (pos pid) = unwrap_or (first_at pid tasks) unnamed
task_name tasks (negsuc pid) = unnamed
