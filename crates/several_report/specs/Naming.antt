-- Which file the message about a report of several files names.
use Rattle.std.specs.Prelude.{◌≡◌, Contains, Option, Some, Result, ℕ, List, map, slice_get, IfErr, IfOk, IfSome, length, slice_index_or, ◌<◌, ◌⊎◌}
use Rattle.trace_outside.specs.Names.{NamedFiles}
use Rattle.multi_report.specs.Order.{cut_of_files}
use Rattle.trace_args.specs.Command.{ReportData}
use Rattle.run_endings.specs.declared.status.Status.{Status}
use Rattle.run_endings.specs.declared.status.Status.TheVariants.{Refused, Malformed, ReadFault}
use Rattle.several_report.specs.Inputs.{NamedInput, WrongInput, shown_in, inputs_in, names_in}
use Rattle.trace_outside.specs.Causes.{Rose}
use Rattle.trace_outside.specs.Seen.{FileSeen}
use Rattle.trace_outside.specs.Open.{IsUnread}
use Rattle.run_endings.specs.Outside.{FolderSeen}

-- the input that the answer is of: the first that has no header, or the one whose malformed sub-buffer ends the report
abbrev pub IsInputOf : ReportData → Result (List NamedInput) WrongInput → Status → List ℕ → Type 0
IsInputOf words inputs (Refused fault) name = IfErr inputs (λ wrong. name ≡ wrong.name)
IsInputOf words inputs (Malformed place) name =
    IfOk inputs (λ files. IfSome (cut_of_files (map (shown_in words) files)) (λ cut. slice_get (names_in words) cut.file ≡ Some name))
IsInputOf words inputs status name = Unit {0}

-- one of them, and that one where the files are told
abbrev pub IsNameIn : ReportData → Option NamedFiles → Status → List ℕ → Type 0
IsNameIn words told status name = Contains (names_in words) name
    × IfSome told (λ files. IsInputOf words (inputs_in files (names_in words)) status name)

-- WHICH COULD NOT BE READ

-- The input of this place could not be opened or read: the first that is missing where a name was missed, else one that is there.
pub record IsUnreadInput (words : ReportData) (before now : FolderSeen) (name : List ℕ) : Type 0 where
  pub place : ℕ
  pub there : (d : List ℕ) → slice_index_or (names_in words) place d ≡ name
  pub unread : IsUnread before.files (names_in words) before.counts.misses now.counts.misses place

-- a fault of reading names that input
abbrev pub IsUnreadNamed : ReportData → Status → FolderSeen → FolderSeen → List ℕ → Type 0
IsUnreadNamed words ReadFault before now name = IsUnreadInput words before now name
IsUnreadNamed words status before now name = Unit {0}

-- it is the first that is not open, or one whose own count of faults rose since it was opened
pub record IsUnreadHeld (words : ReportData) (held : List FileSeen) (before now : FolderSeen) (name : List ℕ) : Type 0 where
  pub input : IsUnreadInput words before now name
  pub own : ((input.place ≡ length held) × Rose before.counts.reading now.counts.reading) ⊎ ((input.place < length held) × ((d : FileSeen) → 0 < (slice_index_or held input.place d).faults))

abbrev pub IsHeldNamed : ReportData → List FileSeen → Status → FolderSeen → FolderSeen → List ℕ → Type 0
IsHeldNamed words held ReadFault before now name = IsUnreadHeld words held before now name
IsHeldNamed words held status before now name = Unit {0}
