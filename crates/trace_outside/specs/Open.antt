-- Files that are open at once: what opening and closing them does to a folder.
use Rattle.std.specs.Prelude.{Option, ◌≡◌, ◌≤◌, ◌<◌, ℕ, List, length, slice_index_or, sum_by, IfSome, IsSome}
use Rattle.std.specs.List.{All}
use Rattle.std.specs.FinMap.{get}
use Rattle.trace_outside.specs.declared.counts.Counts.{Counts}
use Rattle.trace_outside.specs.Names.{NamedFiles}
use Rattle.trace_outside.specs.Causes.{Rose, raised}
use Rattle.trace_outside.specs.Folders.{IsFileOf, misses_after}
use Rattle.trace_outside.specs.Seen.{FileSeen}

-- just opened
pub record IsUnused (file : FileSeen) : Type 0 where
  pub faults : file.faults ≡ 0
  pub reads : file.reads ≡ 0

-- the files of names, in their order
abbrev pub AreFilesOf : Option NamedFiles → List (List ℕ) → List FileSeen → Type 0
AreFilesOf told names files = (i : ℕ) (d : List ℕ) (e : FileSeen) → i < length files → IsFileOf told (slice_index_or names i d) (slice_index_or files i e).bytes

-- a file stands under each name
abbrev pub AreThere : NamedFiles → List (List ℕ) → Type 0
AreThere named names = All (λ name. IsSome (get named name)) names

-- so many files were opened, and nothing else was counted but faults and names that are missing
pub record OpensMany (before now : Counts) (count : ℕ) : Type 0 where
  pub reading : before.reading ≤ now.reading
  pub writing : now.writing ≡ before.writing
  pub misses : before.misses ≤ now.misses
  pub opened : now.opened ≡ raised before.opened count
  pub closed : now.closed ≡ before.closed
  pub created : now.created ≡ before.created
  pub unfinished : now.unfinished ≡ before.unfinished
  pub bytes : now.bytes ≡ before.bytes

-- these files were closed: their faults and the bytes read from them are counted
pub record ClosesMany (files : List FileSeen) (before now : Counts) : Type 0 where
  pub reading : before.reading ≤ now.reading
  pub clean : All (λ file. file.faults ≡ 0) files → now.reading ≡ before.reading
  pub writing : now.writing ≡ before.writing
  pub faulty : (i : ℕ) (d : FileSeen) → i < length files → 0 < (slice_index_or files i d).faults → Rose before.reading now.reading
  pub misses : now.misses ≡ before.misses
  pub opened : now.opened ≡ before.opened
  pub closed : now.closed ≡ raised before.closed (length files)
  pub created : now.created ≡ before.created
  pub unfinished : now.unfinished ≡ before.unfinished
  pub bytes : now.bytes ≡ raised before.bytes (sum_by (λ file. file.reads) files)

-- a read of one of these files failed
abbrev pub SomeFaulty : List FileSeen → Type 0
SomeFaulty files = (i : ℕ) × (i < length files) × ((d : FileSeen) → 0 < (slice_index_or files i d).faults)

-- WHICH COULD NOT BE READ

-- the files before this place are there
abbrev pub AreThereBefore : NamedFiles → List (List ℕ) → ℕ → Type 0
AreThereBefore named names place = (i : ℕ) (d : List ℕ) → i < place → IsSome (get named (slice_index_or names i d))

-- The file of this place could not be opened or read: those before it are there, and a name was missed just where it is missing.
-- So it is the first that is missing, or one that is there, and then no name was missed.
pub record IsUnread (told : Option NamedFiles) (names : List (List ℕ)) (misses now_misses place : ℕ) : Type 0 where
  pub inside : place < length names
  pub before : IfSome told (λ named. AreThereBefore named names place)
  pub missing : IfSome told (λ named. (d : List ℕ) → now_misses ≡ misses_after named (slice_index_or names place d) misses)
