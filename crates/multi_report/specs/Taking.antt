-- What comes next of a file, taken.
use Rattle.std.specs.Prelude.{◌≡◌, ◌<◌, ◌++◌, ℕ, List, [], ◌∷◌, Option, Some, None, Result, Ok, Err, slice_set, slice_index_or}
use Rattle.trace_outside.specs.Causes.{Rose}
use Rattle.trace_outside.specs.Pending.{Holds, OnWay}
use Rattle.trace_outside.specs.Writing.{GainedPrefix}
use Rattle.subpage.specs.Arrangement.{Keyed}
use Rattle.subpage.specs.CutPlaces.{cut_at}
use Rattle.multi_report.specs.declared.taking.Taken.{Taken}
use Rattle.multi_report.specs.declared.taking.Taken.TheVariants as code
use Rattle.time_merge.specs.declared.ending.IoFault.{IoFault}
use Rattle.time_merge.specs.declared.ending.IoFault.TheVariants as fault
use Rattle.multi_report.specs.Sources.{SourceView, IsKnown, IsReadied, IsSame, shown_of, left_in, cut_left, next_key, work}
use Rattle.multi_report.specs.Reports.{line_of}

-- a piece was put after what is on its way
abbrev pub Put : List ℕ → OnWay → OnWay → Type 0
Put piece before now =
    (first : Option (List ℕ)) (text : List ℕ) → Holds first before.written before.waiting text
    → Holds first now.written now.waiting (text ++ piece)

abbrev pub PutPart : List ℕ → OnWay → OnWay → Type 0
PutPart piece before now =
    (first : Option (List ℕ)) (text : List ℕ) → Holds first before.written before.waiting text
    → GainedPrefix first now.written (text ++ piece)

-- The file's first item was used up and its line was put.
pub record ItemTaken (before now : SourceView) (way way_now : OnWay) : Type 0 where
  pub item : Keyed
  pub come : left_in before ≡ item ∷ left_in now
  pub cut : cut_left now ≡ cut_left before
  pub known : IsKnown now
  pub puts : Put (line_of (shown_of before) item) way way_now

-- Its line could not be written.
pub record LineStopped (before : SourceView) (way way_now : OnWay) : Type 0 where
  pub item : Keyed
  pub rest : List Keyed
  pub come : left_in before ≡ item ∷ rest
  pub puts : PutPart (line_of (shown_of before) item) way way_now

-- Nothing was put: nothing is left before a cut, or nothing at all.
pub record IsStill (before : SourceView) (way way_now : OnWay) : Type 0 where
  pub nothing_put : way_now ≡ way
  pub none : left_in before ≡ []

abbrev pub IsTaken : SourceView → OnWay → Result Taken IoFault → SourceView → OnWay → Type 0
IsTaken before way (Ok (code.Item key)) now way_now = ItemTaken before now way way_now × (key ≡ next_key now)
IsTaken before way (Ok (code.Cut cut)) now way_now =
    IsStill before way way_now × ((key : Option ℕ) × (cut_left before ≡ Some (cut_at key cut)))
IsTaken before way (Ok code.Done) now way_now = IsStill before way way_now × (cut_left before ≡ None)
IsTaken before way (Err fault.Read) now way_now = ItemTaken before now way way_now
IsTaken before way (Err fault.Write) now way_now = LineStopped before way way_now

-- The file goes on, with less left.
pub record IsGoing (before now : SourceView) : Type 0 where
  pub readied : IsReadied before now
  pub less : work now < work before

abbrev pub GoesOn : Result Taken IoFault → SourceView → SourceView → Type 0
GoesOn (Ok (code.Item key)) before now = IsGoing before now
GoesOn taken before now = Unit {0}

-- a fault is told only where the count rose
abbrev pub ReadCaused : Result Taken IoFault → ℕ → ℕ → Type 0
ReadCaused (Err fault.Read) before now = Rose before now
ReadCaused taken before now = Unit {0}

abbrev pub WriteCaused : Result Taken IoFault → ℕ → ℕ → Type 0
WriteCaused (Err fault.Write) before now = Rose before now
WriteCaused taken before now = Unit {0}

-- What was taken of a file, and how it is left.
pub record TakenOf (before : SourceView) (way : OnWay) (result : Result Taken IoFault) (now : SourceView) (way_now : OnWay) : Type 0 where
  pub same : IsSame before now
  pub goes : GoesOn result before now
  pub read : ReadCaused result before.faults now.faults
  pub taken : IsKnown before → IsTaken before way result now way_now

-- the same of one of several files; the others are as they were
pub record TakenFrom (before : List SourceView) (j : ℕ) (way : OnWay) (result : Result Taken IoFault) (now : List SourceView) (way_now : OnWay) : Type 0 where
  pub one : SourceView
  pub set : now ≡ slice_set before j one
  pub is : (d : SourceView) → TakenOf (slice_index_or before j d) way result one way_now
