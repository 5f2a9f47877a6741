-- The names that a folder was asked for: those of files to open and of files to create, in the order of the calls.
use Rattle.std.specs.Prelude.{◌≡◌, ℕ, List, ◌++◌, map, take}
use Rattle.new_files.specs.Stored.{NewFile}

abbrev pub names_of : List NewFile → List (List ℕ)
names_of news = map (λ file. file.name) news

-- all of these names were asked for, in this order, each once, and no other
abbrev pub AskedAll : List (List ℕ) → List (List ℕ) → List (List ℕ) → Type 0
AskedAll names before now = now ≡ before ++ names

-- the first few of them were
abbrev pub AskedFirst : List (List ℕ) → List (List ℕ) → List (List ℕ) → Type 0
AskedFirst names before now = (count : ℕ) × AskedAll (take count names) before now
