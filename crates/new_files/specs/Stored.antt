-- New files that stand in a folder.
use Rattle.std.specs.Prelude.{◌≡◌, ◌≤◌, ◌⊎◌, ℕ, List, [], ◌∷◌, take, slice_get, IfSome, IsSomeAnd, Option}
use Rattle.std.specs.FinMap.{insert}
use Rattle.trace_outside.specs.declared.counts.Counts.{Counts}
use Rattle.trace_outside.specs.Causes.{Rose}
use Rattle.trace_outside.specs.Names.{NamedFiles, SameBut}
use Rattle.trace_outside.specs.Folders.{KeepsOthers}

-- a new file: its name and its bytes
pub record NewFile : Type 0 where
  pub name : List ℕ
  pub content : List ℕ

-- each of these files stands under its name, and every other name is as before
abbrev pub Stored : List NewFile → NamedFiles → NamedFiles → Type 0
Stored [] before now = now ≡ before
Stored (file ∷ more) before now = Stored more (insert before file.name file.content) now

abbrev pub FilesStored : List NewFile → Option NamedFiles → Option NamedFiles → Type 0
FilesStored news before now = IfSome before (λ files. IsSomeAnd now (λ after. Stored news files after))

-- every name is as it was but that of the next file
abbrev pub IsNextOpen : Option NewFile → NamedFiles → NamedFiles → Type 0
IsNextOpen next files after = IsSomeAnd next (λ file. SameBut file.name files after)

-- The first few of the files are stored, and every other name is as it was. Only where the folder's count of files that could
-- not be finished rose, nothing is said of the next one's name.
abbrev pub FirstFilesStored : List NewFile → Counts → Counts → Option NamedFiles → Option NamedFiles → Type 0
FirstFilesStored news counts now_counts before now = IfSome before (λ files. IsSomeAnd now (λ after.
    (count : ℕ) × (middle : NamedFiles) × Stored (take count news) files middle
    × ((after ≡ middle) ⊎ (Rose counts.unfinished now_counts.unfinished × IsNextOpen (slice_get news count) middle after))))

-- A fault of writing at a file of this name: the map is as it was. Only where the count of files that could not be finished rose,
-- nothing is said of this one name.
abbrev pub IsUnmade : ℕ → ℕ → List ℕ → Option NamedFiles → Option NamedFiles → Type 0
IsUnmade unfinished now_unfinished name old new = (new ≡ old) ⊎ (Rose unfinished now_unfinished × KeepsOthers old new name)

-- what making new files leaves of a folder's counts: faults and files that could not be finished never fall, and but for the
-- files created nothing else is counted
pub record KeepsCounts (before now : Counts) : Type 0 where
  pub reading : before.reading ≤ now.reading
  pub writing : before.writing ≤ now.writing
  pub unfinished : before.unfinished ≤ now.unfinished
  pub misses : now.misses ≡ before.misses
  pub opened : now.opened ≡ before.opened
  pub closed : now.closed ≡ before.closed
  pub bytes : now.bytes ≡ before.bytes
