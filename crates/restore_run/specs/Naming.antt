-- Which file the message about a restore names.
use Rattle.std.specs.Prelude.{Result, Err, ◌≡◌, ◌<◌, Contains, ℕ, List, length, slice_index_or}
use Rattle.trace_outside.specs.Open.{IsUnread}
use Rattle.restore_tool.specs.declared.named.RestoreFault.{RestoreFault}
use Rattle.restore_tool.specs.declared.named.RestoreFault.TheVariants as code
use Rattle.restore_tool.specs.Failing.{inputs_of, place_of}
use Rattle.trace_args.specs.Command.{RestoreData}
use Rattle.run_endings.specs.declared.status.Status.{Status}
use Rattle.run_endings.specs.declared.status.Status.TheVariants.{ReadFault}
use Rattle.restore_run.specs.Restore.{names_of}
use Rattle.run_endings.specs.Outside.{FolderSeen}

-- the files that a restore reads, in their order
abbrev pub restore_inputs : RestoreData → List (List ℕ)
restore_inputs words = inputs_of (names_of words)

-- one of them, and the one of this place, if there is such a place
pub record IsNameAt (words : RestoreData) (place : ℕ) (name : List ℕ) : Type 0 where
  pub one : Contains (restore_inputs words) name
  pub there : place < length (restore_inputs words) → (d : List ℕ) → slice_index_or (restore_inputs words) place d ≡ name

-- the file of this name could not be opened or read: the first that is missing where a name was missed, else one that is there
pub record IsUnreadName (words : RestoreData) (before now : FolderSeen) (name : List ℕ) : Type 0 where
  pub place : ℕ
  pub name_is : IsNameAt words place name
  pub unread : IsUnread before.files (restore_inputs words) before.counts.misses now.counts.misses place

-- the file that a fault tells, or else the partial one
abbrev pub IsNameOf : RestoreData → Result Unit RestoreFault → List ℕ → Type 0
IsNameOf words (Err (code.Read source)) name = IsNameAt words (place_of source) name
IsNameOf words other name = name ≡ words.input

-- the file that the message of a restore names: after a fault of reading the one that it could not read
abbrev pub IsRestoreNamed : RestoreData → Status → FolderSeen → FolderSeen → List ℕ → Type 0
IsRestoreNamed words ReadFault before now name = IsUnreadName words before now name
IsRestoreNamed words status before now name = name ≡ words.input
