-- What a format text says of an event.
use Rattle.std.specs.Prelude.{ℕ, if◌then◌else◌, List, [], ◌∷◌, map, codes, Option, Some, None}
use Rattle.std.specs.List.{cons_option, join_with_byte}
use Rattle.trace_base.specs.OptionSteps.{◌>>=◌}
use Rattle.trace_base.specs.FieldLine.{FieldData, is_identifier, decimal}
use Rattle.trace_base.specs.FieldReading.{after_word, field_line}
use Rattle.format_parse.specs.declared.format.EventFormat.{EventFormat}
use Rattle.text_lines.specs.Lines.{lines_of, first_after}
use Rattle.format_parse.specs.FieldKinds.{field_of}

abbrev pub fields_by : Option (List ℕ) → List FieldData → List FieldData
fields_by None fields = fields
fields_by (Some rest) fields = []

-- the field lines before the print fmt
abbrev pub field_data : List (List ℕ) → List FieldData
field_data [] = []
field_data (line ∷ lines) = fields_by (after_word (codes "print fmt:") line) (cons_option (field_line line) (field_data lines))

abbrev pub print_by : Option (List ℕ) → List (List ℕ) → List ℕ → List ℕ
print_by None lines later = later
print_by (Some rest) lines later = join_with_byte 10 (rest ∷ lines)

-- all text after the first `print fmt:` at a line's beginning; none is empty
abbrev pub print_text : List (List ℕ) → List ℕ
print_text [] = []
print_text (line ∷ lines) = print_by (after_word (codes "print fmt:") line) lines (print_text lines)

abbrev pub identifier : List ℕ → Option (List ℕ)
identifier text = if is_identifier text then Some text else None

unfoldable pub name_in : List ℕ → Option (List ℕ)
name_in text = do
  rest ← first_after (codes "name: ") (lines_of text)
  identifier rest

unfoldable pub id_in : List ℕ → Option ℕ
id_in text = do
  rest ← first_after (codes "ID: ") (lines_of text)
  decimal rest

-- the format of an event that the text spells
unfoldable pub format_of : List ℕ → List ℕ → Option EventFormat
format_of system text = do
  name ← name_in text
  id ← id_in text
  Some (record { system = system; name = name; id = id; fields = map field_of (field_data (lines_of text)); print = print_text (lines_of text); text = text })
