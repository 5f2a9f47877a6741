-- The names that a run asks the folder for: only those in its words.
use Rattle.std.specs.Prelude.{◌≡◌, ℕ, List, [], ◌∷◌, Option, Result, Ok, Err}
use Rattle.split_tool.specs.Numbered.{first_names}
use Rattle.run_endings.specs.Meaning.{Meaning}
use Rattle.run_endings.specs.Requested.{AsksFor}
use Rattle.run_words.specs.declared.usage.UsageFault.{UsageFault}
use Rattle.run_words.specs.Job.{FileCommand, Report, Dump, Split, Job, OnFile, OnFiles, SelfTest, Restore, About}
use Rattle.several_report.specs.Inputs.{names_in}
use Rattle.restore_run.specs.Restore.{restore_asks}
use Rattle.trace_run.specs.Meaning.{input_of}

-- the names of so many new files of a command on a file; only a split makes any
abbrev pub new_names : FileCommand → ℕ → List (List ℕ)
new_names (Report words) news = []
new_names (Dump words) news = []
new_names (Split words) news = first_names words.base news

-- the names of a job that splits into so many new files, in their order: those of the files that it reads and then those of the new ones
abbrev pub names_of : Job → ℕ → List (List ℕ)
names_of (OnFile command) news = input_of command ∷ new_names command news
names_of (OnFiles words) news = names_in words
names_of (SelfTest words) news = []
names_of (Restore words) news = restore_asks words
names_of (About topic) news = []

-- The first few of the names of a job were asked for, each once, and no other. Words without a reading ask for none.
abbrev pub Asks : Result Job UsageFault → Option Meaning → List (List ℕ) → List (List ℕ) → Type 0
Asks (Ok job) means before now = AsksFor (names_of job) means before now
Asks (Err fault) means before now = now ≡ before
