-- The four ways in which a run, or a command of it, may end beside its meaning: it did what it means, it found no memory, a
-- read failed, a write failed. There is no other.
use Rattle.std.specs.Prelude.{Option, ◌≡◌, ◌⊎◌, ℕ, ◌≤◌, length, take, IfSome}
use Rattle.trace_outside.specs.Causes.{Rose, raised}
use Rattle.trace_outside.specs.Memory.{KeepsFaults}
use Rattle.trace_outside.specs.Writing.{Gained, GainedPrefix}
use Rattle.trace_outside.specs.Pieces.{text_of}
use Rattle.dat_header.specs.Header.{IsRefusal}
use Rattle.new_files.specs.Stored.{FilesStored, FirstFilesStored}
use Rattle.run_endings.specs.declared.status.Status.{Status}
use Rattle.run_endings.specs.declared.status.Status.TheVariants.{Done, Usage, Refused, ReadFault, WriteFault, NoMemory}
use Rattle.run_endings.specs.Meaning.{Meaning, Target, on_nothing, on_out, on_folder}
use Rattle.run_endings.specs.Outside.{FolderSeen, SinkSeen, Outside, beside}

-- it did all that it means, and made no file beside
pub record Finished (m : Meaning) (status : Status) (before now : Outside) : Type 0 where
  pub answer : status ≡ m.status
  pub output : Gained before.out.written now.out.written (text_of m.pieces)
  pub files : FilesStored m.files before.folder.files now.folder.files
  pub created : now.folder.counts.created ≡ raised before.folder.counts.created (length m.files)

-- nothing was written, and no file made
pub record Untouched (before now : Outside) : Type 0 where
  pub output : now.out.written ≡ before.out.written
  pub files : now.folder.files ≡ before.folder.files
  pub created : now.folder.counts.created ≡ before.folder.counts.created

-- a read failed: the first few pieces were written and the first few files stored
pub record StoppedReading (m : Meaning) (before now : Outside) : Type 0 where
  pub output : (count : ℕ) × Gained before.out.written now.out.written (text_of (take count m.pieces))
  pub files : (count : ℕ) × FilesStored (take count m.files) before.folder.files now.folder.files
  pub created : now.folder.counts.created ≤ raised before.folder.counts.created (length m.files)

-- a write failed: a prefix of the output was written and the first few files stored; of the next one's name nothing is said
-- only where a file could not be finished
pub record StoppedWriting (m : Meaning) (before now : Outside) : Type 0 where
  pub output : GainedPrefix before.out.written now.out.written (text_of m.pieces)
  pub files : FirstFilesStored m.files before.folder.counts now.folder.counts before.folder.files now.folder.files
  pub created : now.folder.counts.created ≤ raised before.folder.counts.created (length m.files)

-- the four cases, by the answer
abbrev pub Ends : Meaning → Status → Outside → Outside → Type 0
Ends m NoMemory before now = Untouched before now
Ends m ReadFault before now = StoppedReading m before now
Ends m WriteFault before now = StoppedWriting m before now
Ends m status before now = Finished m status before now

-- three answers leave all as it was, whatever is known of the folder's files
abbrev pub LeavesAll : Status → Outside → Outside → Type 0
LeavesAll Usage before now = Untouched before now
LeavesAll (Refused fault) before now = Untouched before now
LeavesAll NoMemory before now = Untouched before now
LeavesAll status before now = Unit {0}

-- the count of faults of what is written to
abbrev pub write_faults : Target → Outside → ℕ
write_faults on_nothing seen = 0
write_faults on_out seen = seen.out.faults
write_faults on_folder seen = seen.folder.counts.writing

-- that a write failed shows in that count
abbrev pub Unwritten : Target → Outside → Outside → Type 0
Unwritten target before now = Rose (write_faults target before) (write_faults target now)

-- only words without a reading are answered Usage
abbrev pub IsUnasked : Target → Type 0
IsUnasked on_nothing = Unit {0}
IsUnasked on_out = ⊥
IsUnasked on_folder = ⊥

-- A fault of reading has this reason, and one of writing shows in a count, also over objects that tell no bytes; a refusal
-- is always one of the file's bytes.
abbrev pub IsCaused : Target → Type 0 → Status → Outside → Outside → Type 0
IsCaused target unread ReadFault before now = unread
IsCaused target unread WriteFault before now = Unwritten target before now
IsCaused target unread (Refused fault) before now = IsRefusal fault
IsCaused target unread Usage before now = IsUnasked target
IsCaused target unread status before now = Unit {0}

-- what writes to the folder leaves the output as it was
abbrev pub KeepsOut : Target → SinkSeen → SinkSeen → Type 0
KeepsOut on_folder before now = now ≡ before
KeepsOut target before now = Unit {0}

-- this holds where there was no memory
abbrev pub IfNoMemory : Status → Type 0 → Type 0
IfNoMemory NoMemory claim = claim
IfNoMemory status claim = Unit {0}

-- no call of the outside failed that the folder or the output counts, and nothing was written to the output
pub record CountsNoFault (before now : Outside) : Type 0 where
  pub folder : KeepsFaults before.folder.counts now.folder.counts
  pub out : now.out ≡ before.out

-- How a run, or a part of it, ended that means this, where its meaning is known, and writes to this. A read of it failed
-- only with this reason, and a fault that was counted is never told as want of memory.
pub record Ended (target : Target) (unread : Type 0) (means : Option Meaning) (status : Status) (before now : Outside) : Type 0 where
  pub ends : IfSome means (λ m. Ends m status before now)
  pub untouched : LeavesAll status before now
  pub causes : IsCaused target unread status before now
  pub kept : IfNoMemory status (CountsNoFault before now)

-- a command that only prints, beside any folder
abbrev pub Prints : Type 0 → Option Meaning → Status → SinkSeen → SinkSeen → Type 0
Prints unread means status before now =
    (folder : FolderSeen) → Ended on_out unread means status (beside folder before) (beside folder now)

-- a command that only makes files, beside any output
abbrev pub MakesFiles : Type 0 → Option Meaning → Status → FolderSeen → FolderSeen → Type 0
MakesFiles unread means status before now =
    (out : SinkSeen) → Ended on_folder unread means status (beside before out) (beside now out)

-- where nothing failed, what means Done is Done or finds no memory
abbrev pub IsComplete : Target → Type 0 → Meaning → Status → Outside → Outside → Type 0
IsComplete target unread m status before now =
    m.status ≡ Done → ¬ unread → ¬ (Unwritten target before now) → (status ≡ Done) ⊎ (status ≡ NoMemory)
