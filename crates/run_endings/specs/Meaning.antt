-- What a run, or a command of it, means: what it writes, how it ends, and which files it makes.
use Rattle.std.specs.Prelude.{Option, ℕ, List, []}
use Rattle.subpage.specs.Cut.{Cut}
use Rattle.item_pass.specs.Gathering.{cut_place}
use Rattle.run_endings.specs.declared.status.Status.{Status}
use Rattle.run_endings.specs.Ends.{status_of_cut}
use Rattle.new_files.specs.Stored.{NewFile}

-- what a command writes to, whose fault a fault of writing is; words without a reading write to nothing
pub data Target : Type 0 where
  on_nothing : Target
  on_out : Target
  on_folder : Target

-- the output, in the pieces between which a fault of reading may end it; the status; and the new files
pub record Meaning : Type 0 where
  pub pieces : List (List ℕ)
  pub status : Status
  pub files : List NewFile

-- this is written to the output, and no file made
abbrev pub prints : List (List ℕ) → Status → Meaning
prints pieces status = record { pieces = pieces; status = status; files = [] }

-- nothing is written
abbrev pub only : Status → Meaning
only status = prints [] status

-- a report ends at the first malformed sub-buffer in the order of its lines
abbrev pub ended : Option Cut → Status
ended cut = status_of_cut (cut_place cut)
