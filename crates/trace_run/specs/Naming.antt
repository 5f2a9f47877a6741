-- Which file the message of an answer names.
use Rattle.std.specs.Prelude.{◌≡◌, ℕ, List, []}
use Rattle.run_endings.specs.declared.status.Status.{Status}
use Rattle.run_words.specs.Job.{Job, OnFile, OnFiles, SelfTest, Restore, About}
use Rattle.trace_run.specs.Meaning.{input_of}
use Rattle.run_endings.specs.Outside.{FolderSeen}
use Rattle.several_report.specs.Naming.{IsNameIn, IsUnreadNamed}
use Rattle.restore_run.specs.Naming.{IsRestoreNamed}

-- The file that a message names, by what is seen of the folder before and after: the input, of which a self-test and what the
-- program tells of itself have none, one of several inputs, and where a report of several files or a restore could not read, the
-- file that it could not.
abbrev pub IsNamed : Job → Status → FolderSeen → FolderSeen → List ℕ → Type 0
IsNamed (OnFile command) status before now name = name ≡ input_of command
IsNamed (OnFiles words) status before now name = IsNameIn words before.files status name × IsUnreadNamed words status before now name
IsNamed (SelfTest words) status before now name = name ≡ []
IsNamed (Restore words) status before now name = IsRestoreNamed words status before now name
IsNamed (About topic) status before now name = name ≡ []
