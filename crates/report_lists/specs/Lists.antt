-- The lists of a report: the events of a file, their format texts, its symbols and its printk formats.
-- Source: trace-cmd-report(1), `-E`, `--events`, `-f` and `-P`.
use Rattle.std.specs.Prelude.{ℕ, ◌-◌, replicate, List, [], ◌∷◌, length, codes, Option, Some, None, Bool}
use Rattle.std.specs.List.{concat, flat_map}
use Rattle.std.specs.Fmt.{digits}
use Rattle.text_lines.specs.Lines.{line_end}
use Rattle.format_parse.specs.declared.format.EventFormat.{EventFormat}
use Rattle.symbols.specs.NameMap.{Pair}

-- what an entry adds to a list, where there is one
abbrev pub entry : {X : Type 0} → (X → List ℕ) → Option X → List ℕ
entry f None = []
entry f (Some x) = f x

-- `SYSTEM/NAME`
abbrev pub name_line : EventFormat → List ℕ
name_line format = concat (format.system ∷ codes "/" ∷ format.name ∷ codes "\n" ∷ [])

abbrev pub names_list : List EventFormat → List ℕ
names_list formats = flat_map name_line formats

-- a format's text as it is
abbrev pub format_lines : EventFormat → List ℕ
format_lines format = concat (format.text ∷ line_end format.text ∷ [])

abbrev pub formats_list : List EventFormat → List ℕ
formats_list formats = flat_map format_lines formats

-- a number in 16 hexadecimal digits, and what is named by it
abbrev pub numbered_line : List ℕ → List ℕ → List ℕ → List ℕ → List ℕ
numbered_line mark digits between name = concat (mark ∷ replicate (16 - length digits) 48 ∷ digits ∷ between ∷ name ∷ codes "\n" ∷ [])

abbrev pub row_line : List ℕ → List ℕ → Pair → List ℕ
row_line mark between row = numbered_line mark (digits 16 Bool.false row.0) between row.1

abbrev pub symbol_line : Pair → List ℕ
symbol_line symbol = row_line [] (codes " ") symbol

abbrev pub symbols_list : List Pair → List ℕ
symbols_list symbols = flat_map symbol_line symbols

abbrev pub printk_line : Pair → List ℕ
printk_line format = row_line (codes "0x") (codes " : ") format

abbrev pub printk_list : List Pair → List ℕ
printk_list formats = flat_map printk_line formats
