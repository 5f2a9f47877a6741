-- What is read of the line that a text of further lines begins with.
use Rattle.std.specs.Prelude.{◌≡◌, ℕ, ◌<◌, Bool, true, false, not, ◌&&◌, ◌==◌, List, [], ◌∷◌, ◌++◌, length, take, slice_index, Some}
use Rattle.std.specs.List.{list_all, cons_option}
use Rattle.text_lines.specs.Lines.{lines_of}
use Rattle.symbols.specs.NameMap.{Pair}
use Rattle.symbols.specs.LineForms.{in_name}
use Rattle.symbols.specs.declared.lines.Form.{Form}
use Rattle.symbols.specs.Forms.{symbol_line, line_in}
use Rattle.symbols.specs.Names.{EndsWith}

-- a byte of a name, and of its line
abbrev pub stays : ℕ → Bool
stays byte = in_name byte && not (byte == 10)

-- a text begins with a name that is so long, and has a byte after it
pub record IsNameLen (text : List ℕ) (len : ℕ) : Type 0 where
  pub inside : len < length text
  pub name : list_all stays (take len text) ≡ true
  pub ends : stays (slice_index text len) ≡ false

-- the symbol of the first line, where its name begins in the text, and the lines after it
pub record IsFirstSymbol (text : List ℕ) (key : ℕ) (from : List ℕ) (len : ℕ) (others : List (List ℕ)) : Type 0 where
  pub line : List ℕ
  pub split : lines_of text ≡ line ∷ others
  pub is : symbol_line line ≡ Some (key, take len from)
  pub inside : len < length from
  pub ends : EndsWith text from

-- the name of the first line is appended to the others, if it has one
pub record PutsFirst (form : Form) (text : List ℕ) (before after : List Pair) (others : List (List ℕ)) : Type 0 where
  pub line : List ℕ
  pub split : lines_of text ≡ line ∷ others
  pub put : after ≡ before ++ cons_option (line_in form line) []
