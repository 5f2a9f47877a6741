-- Which file a fault names that could not be opened or read.
use Rattle.std.specs.Prelude.{Option, Result, Err, ◌≡◌, ◌<◌, ◌⊎◌, ℕ, zero, suc, List, ◌∷◌, length, slice_index_or}
use Rattle.trace_outside.specs.Names.{NamedFiles}
use Rattle.trace_outside.specs.Seen.{FileSeen}
use Rattle.trace_outside.specs.Open.{IsUnread}
use Rattle.restore_tool.specs.declared.named.RestoreFault.{RestoreFault}
use Rattle.restore_tool.specs.declared.named.RestoreFault.TheVariants as code
use Rattle.restore_tool.specs.declared.named.Source.{Source}
use Rattle.restore_tool.specs.declared.named.Source.TheVariants as source_code
use Rattle.restore_tool.specs.Meaning.{NamesData}

-- the files that are read, in their order, and the place of one of them
abbrev pub inputs_of : NamesData → List (List ℕ)
inputs_of names = names.partial ∷ names.files

abbrev pub place_of : Source → ℕ
place_of source_code.Partial = zero
place_of (source_code.File file) = suc file

-- after a partial file that was opened it is one of the data files, or the partial file, and then no name was missed
abbrev pub IsUnreadBehind : Option NamedFiles → List (List ℕ) → ℕ → ℕ → Source → Type 0
IsUnreadBehind told files misses now_misses source_code.Partial = now_misses ≡ misses
IsUnreadBehind told files misses now_misses (source_code.File file) = IsUnread told files misses now_misses file

-- it is the first data file that is not open, or one whose own count of faults rose since it was opened
abbrev pub IsFaulty : Type 0 → List FileSeen → Source → Type 0
IsFaulty failed held source_code.Partial = ⊥
IsFaulty failed held (source_code.File file) =
    ((file ≡ length held) × failed) ⊎ ((file < length held) × ((d : FileSeen) → 0 < (slice_index_or held file d).faults))

-- this holds of the file that a fault names as one that could not be opened or read
abbrev pub IfRead : Result Unit RestoreFault → (Source → Type 0) → Type 0
IfRead (Err (code.Read source)) claim = claim source
IfRead result claim = Unit {0}
