-- The field that a line declares, computed from the left.
use Rattle.std.specs.Prelude.{ℕ, zero, suc, ◌+◌, ◌-◌, Bool, true, false, not, ◌&&◌, ◌==◌, if◌then◌else◌, List, length, take, drop, codes, slice_index, Option, Some, None, is_some, unwrap_or}
use Rattle.std.specs.List.{position, suffix_len}
use Rattle.std.specs.Str.{bytes_eq}
use Rattle.byte_classes.specs.Bytes.{is_word}
use Rattle.trace_base.specs.OptionSteps.{◌>>=◌}
use Rattle.trace_base.specs.FieldLine.{Declaration, FieldData, is_identifier, skip_blanks, trimmed, decimal}
use Rattle.trace_base.specs.declared.field_line.FieldLine.{FieldLine}
use Rattle.trace_base.specs.declared.field_line.Declared.{Declared}

-- what follows the word that the text begins with
unfoldable pub after_word : List ℕ → List ℕ → Option (List ℕ)
after_word word text = if bytes_eq (take (length word) text) word then Some (drop (length word) text) else None

-- what stands before the first semicolon, and what after it
unfoldable pub cut_at : List ℕ → Option (List ℕ × List ℕ)
cut_at text = do
  at ← position (λ byte. byte == 59) text
  Some (take at text, drop (at + 1) text)

-- the identifier that the text ends in, after what stands before it
unfoldable pub named_at : List ℕ → Option (List ℕ × List ℕ)
named_at text =
    let start = length text - suffix_len is_word text in
    if is_identifier (drop start text) then Some (take start text, drop start text) else None

-- an opening bracket directly after an identifier
unfoldable pub opens : List ℕ → ℕ → Bool
opens text at = (slice_index text at == 91) && is_some (named_at (take at text))

-- the greatest number below the bound that passes
abbrev pub greatest_below : (ℕ → Bool) → ℕ → Option ℕ
greatest_below test zero = None
greatest_below test (suc bound) = if test bound then Some bound else greatest_below test bound

unfoldable pub plain_at : List ℕ → Option Declaration
plain_at text = do
  named ← named_at text
  Some (record { name = named.1; kind_text = trimmed named.0; array = false; count = 0 })

-- a declaration with brackets, without its last byte
unfoldable pub array_at : List ℕ → Option Declaration
array_at text = do
  at ← greatest_below (opens text) (length text)
  named ← named_at (take at text)
  Some (record { name = named.1; kind_text = trimmed named.0; array = true; count = unwrap_or (decimal (drop (at + 1) text)) 0 })

unfoldable pub declaration_at : List ℕ → Option Declaration
declaration_at text = if bytes_eq (drop (length text - 1) text) (codes "]") then array_at (take (length text - 1) text) else plain_at text

-- the number after blanks and a word, and what follows its semicolon
unfoldable pub entry_at : List ℕ → List ℕ → Option (ℕ × List ℕ)
entry_at word text = do
  rest ← after_word word (skip_blanks text)
  parts ← cut_at rest
  number ← decimal parts.0
  Some (number, parts.1)

-- the sign that ends the line, where there is one
unfoldable pub sign_at : List ℕ → Option Bool
sign_at text = if length text == 0 then Some false else (do
  entry ← entry_at (codes "signed:") text
  if length entry.1 == 0 then Some (not (entry.0 == 0)) else None)

unfoldable pub field_line : List ℕ → Option FieldData
field_line line = do
  rest ← after_word (codes "field:") (skip_blanks line)
  parts ← cut_at rest
  declaration ← declaration_at parts.0
  offset ← entry_at (codes "offset:") parts.1
  size ← entry_at (codes "size:") offset.1
  signed ← sign_at size.1
  Some (record { declaration = declaration; offset = offset.0; size = size.0; signed = signed })

-- a declaration of the program, seen as what it says
abbrev pub declared_view : Declared → Declaration
declared_view declared = record { name = declared.name.now; kind_text = declared.kind_text.now; array = declared.array; count = declared.count }

-- a field line of the program, seen as what the line says
abbrev pub field_view : FieldLine → FieldData
field_view line = record {
  declaration = record { name = line.name.now; kind_text = line.kind_text.now; array = line.array; count = line.count };
  offset = line.offset;
  size = line.size;
  signed = line.signed;
}
