-- The names of a split's new files.
-- Source: trace-cmd-split(1).
use Rattle.std.specs.Prelude.{ℕ, List, ◌++◌, codes}
use Rattle.std.specs.Fmt.{decimal}

-- the base, a point, and the file's number, counted from 1
abbrev pub file_name : List ℕ → ℕ → List ℕ
file_name base number = base ++ codes "." ++ decimal number
