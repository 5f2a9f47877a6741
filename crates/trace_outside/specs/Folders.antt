-- What the calls of a folder do to its map and to its eight counts: one record a call, one line a count.
use Rattle.std.specs.Prelude.{Some, [], Option, Result, ◌≡◌, ℕ, ◌<◌, ◌≤◌, List, IsSome, is_none, if◌then◌else◌, MatchResult, IfSome, IsSomeAnd, OnErr, OnOk}
use Rattle.std.specs.FinMap.{get}
use Rattle.trace_outside.specs.declared.counts.Counts.{Counts}
use Rattle.trace_outside.specs.Names.{NamedFiles, SameBut, stored}
use Rattle.trace_outside.specs.Causes.{raised, Rose}

-- nothing was counted
abbrev pub no_counts : Counts
no_counts = record { reading = 0; writing = 0; misses = 0; opened = 0; closed = 0; created = 0; unfinished = 0; bytes = 0 }

-- the misses after this name was asked for
abbrev pub misses_after : NamedFiles → List ℕ → ℕ → ℕ
misses_after files name misses = if is_none (get files name) then raised misses 1 else misses

-- an opened file has the bytes of its name, which is in the map, and tells them where the folder tells its map
abbrev pub IsFileOf : Option NamedFiles → List ℕ → Option (List ℕ) → Type 0
IsFileOf told name bytes = IfSome told (λ files. IsSome (get files name) × (bytes ≡ get files name))

-- a name was asked for
pub record Opens {I E : Type 0} (told : Option NamedFiles) (name : List ℕ) (before now : Counts) (result : Result I E) : Type 0 where
  pub reading : before.reading ≤ now.reading
  pub failed : OnErr result (Rose before.reading now.reading)
  pub kept : OnOk result (now.reading ≡ before.reading)
  pub writing : now.writing ≡ before.writing
  pub misses : IfSome told (λ files. now.misses ≡ misses_after files name before.misses)
  pub misses_later : before.misses ≤ now.misses
  pub opened : MatchResult result (λ _. now.opened ≡ raised before.opened 1) (λ _. now.opened ≡ before.opened)
  pub closed : now.closed ≡ before.closed
  pub created : now.created ≡ before.created
  pub unfinished : now.unfinished ≡ before.unfinished
  pub bytes : now.bytes ≡ before.bytes

-- a file with so many faults and so many bytes read was closed
pub record Closes (faults reads : ℕ) (before now : Counts) : Type 0 where
  pub reading : before.reading ≤ now.reading
  pub clean : faults ≡ 0 → now.reading ≡ before.reading
  pub faulty : 0 < faults → Rose before.reading now.reading
  pub writing : now.writing ≡ before.writing
  pub misses : now.misses ≡ before.misses
  pub opened : now.opened ≡ before.opened
  pub closed : now.closed ≡ raised before.closed 1
  pub created : now.created ≡ before.created
  pub unfinished : now.unfinished ≡ before.unfinished
  pub bytes : now.bytes ≡ raised before.bytes reads

-- a created sink is empty, and tells so where the folder tells its map
abbrev pub IsEmptySink : Option NamedFiles → Option (List ℕ) → Type 0
IsEmptySink told written = IfSome told (λ _. written ≡ Some [])

-- a file was to be created
pub record Creates {O E : Type 0} (before now : Counts) (result : Result O E) : Type 0 where
  pub reading : before.reading ≤ now.reading
  pub writing : before.writing ≤ now.writing
  pub failed : OnErr result (Rose before.writing now.writing)
  pub misses : now.misses ≡ before.misses
  pub opened : now.opened ≡ before.opened
  pub closed : now.closed ≡ before.closed
  pub created : MatchResult result (λ _. now.created ≡ raised before.created 1) (λ _. now.created ≡ before.created)
  pub unfinished : now.unfinished ≡ before.unfinished
  pub bytes : now.bytes ≡ before.bytes

-- no count moved but those of faults and of finishes that failed
pub record KeepsUse (before now : Counts) : Type 0 where
  pub misses : now.misses ≡ before.misses
  pub opened : now.opened ≡ before.opened
  pub closed : now.closed ≡ before.closed
  pub created : now.created ≡ before.created
  pub bytes : now.bytes ≡ before.bytes

-- a sink with so many faults was to be finished
pub record Finishes {E : Type 0} (faults : ℕ) (before now : Counts) (result : Result Unit E) : Type 0 where
  pub reading : before.reading ≤ now.reading
  pub writing : before.writing ≤ now.writing
  pub failed : OnErr result (Rose before.writing now.writing)
  pub faulty : 0 < faults → Rose before.writing now.writing
  pub unfinished : MatchResult result (λ _. now.unfinished ≡ before.unfinished) (λ _. now.unfinished ≡ raised before.unfinished 1)
  pub use_kept : KeepsUse before now

-- a sink with so many faults was given up
pub record Drops (faults : ℕ) (before now : Counts) : Type 0 where
  pub reading : before.reading ≤ now.reading
  pub writing : before.writing ≤ now.writing
  pub clean : faults ≡ 0 → now.writing ≡ before.writing
  pub faulty : 0 < faults → Rose before.writing now.writing
  pub unfinished : now.unfinished ≡ before.unfinished
  pub use_kept : KeepsUse before now

-- the finished file stands under its name, and every other name is as it was
abbrev pub Stores : Option NamedFiles → Option NamedFiles → List ℕ → Option (List ℕ) → Type 0
Stores old new name written = IfSome written (λ bytes. new ≡ stored old name bytes)

-- of this one name nothing is said, and the map is still told
abbrev pub KeepsOthers : Option NamedFiles → Option NamedFiles → List ℕ → Type 0
KeepsOthers old new name = IfSome old (λ files. IsSomeAnd new (λ after. SameBut name files after))
