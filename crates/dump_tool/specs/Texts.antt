-- The lines that a dump is made of. The layout is this project's own; trace-cmd-dump(1) says what
-- each section shows.
use Rattle.std.specs.Prelude.{ℕ, List, [], ◌∷◌, length, codes}
use Rattle.std.specs.List.{concat}
use Rattle.std.specs.Fmt.{decimal}
use Rattle.text_lines.specs.Lines.{line_end}

-- a name and what it stands for, on a line of their own
abbrev pub value_line : List ℕ → List ℕ → List ℕ
value_line name value = concat (name ∷ codes " " ∷ value ∷ codes "\n" ∷ [])

abbrev pub count_line : List ℕ → ℕ → List ℕ
count_line name count = value_line name (decimal count)

-- the line above a list of so many entries
abbrev pub heading : List ℕ → ℕ → List ℕ
heading name count = concat (codes "[" ∷ name ∷ codes " " ∷ decimal count ∷ codes "]\n" ∷ [])

abbrev pub sized_text : List ℕ → List ℕ → List ℕ → List ℕ
sized_text name size bytes = concat (codes "[" ∷ name ∷ codes " " ∷ size ∷ codes " bytes]\n" ∷ bytes ∷ line_end bytes ∷ [])

-- a stored text as it is, below a line with its name and its size in bytes
abbrev pub stored_text : List ℕ → List ℕ → List ℕ
stored_text name bytes = sized_text name (decimal (length bytes)) bytes
