-- The field that a field line declares: its kind, its place, and the size of its elements.
use Rattle.std.specs.Prelude.{ℕ, ◌-◌, ◌/◌, ◌%◌, Bool, false, not, ◌&&◌, ◌||◌, ◌==◌, if◌then◌else◌, List, length, slice_get, codes, Option, Some, None, is_some}
use Rattle.std.specs.Str.{bytes_eq}
use Rattle.trace_base.specs.FieldLine.{FieldData}
use Rattle.trace_base.specs.FieldReading.{after_word}
use Rattle.trace_base.specs.declared.field.Field.{Field}
use Rattle.trace_base.specs.declared.field.FieldKind.{FieldKind}
use Rattle.trace_base.specs.declared.field.FieldKind.TheVariants.{Number, Text, Bytes, Pointer}
use Rattle.trace_base.specs.declared.field.FieldPlace.{FieldPlace}
use Rattle.trace_base.specs.declared.field.FieldPlace.TheVariants.{Fixed, DataLoc, RelLoc}

unfoldable pub place_of : List ℕ → FieldPlace
place_of kind_text = if is_some (after_word (codes "__data_loc ") kind_text) then DataLoc else (if is_some (after_word (codes "__rel_loc ") kind_text) then RelLoc else Fixed)

abbrev pub dynamic_kind : List ℕ → FieldKind
dynamic_kind rest = if bytes_eq rest (codes "char[]") then Text else Bytes

abbrev pub is_text : List ℕ → Bool
is_text kind_text = bytes_eq kind_text (codes "char") || bytes_eq kind_text (codes "const char")

abbrev pub is_star : Option ℕ → Bool
is_star None = false
is_star (Some byte) = byte == 42

abbrev pub has_star : List ℕ → Bool
has_star kind_text = is_star (slice_get kind_text (length kind_text - 1))

abbrev pub fixed_kind : List ℕ → Bool → ℕ → FieldKind
fixed_kind kind_text array size =
    if array then (if is_text kind_text then Text else Bytes)
    else (if has_star kind_text && (size == 4 || size == 8) then Pointer
    else (if size == 1 || size == 2 || size == 4 || size == 8 then Number else Bytes))

-- the kind by what follows a word for a place, where there is one
abbrev pub kind_by : Option (List ℕ) → FieldKind → FieldKind
kind_by None otherwise = otherwise
kind_by (Some rest) otherwise = dynamic_kind rest

unfoldable pub kind_of : FieldData → FieldKind
kind_of line =
    let text = line.declaration.kind_text in
    kind_by (after_word (codes "__data_loc ") text) (kind_by (after_word (codes "__rel_loc ") text) (fixed_kind text line.declaration.array line.size))

abbrev pub element_of : ℕ → ℕ → ℕ
element_of size count = if not (count == 0) && (size % count == 0) then size / count else 1

unfoldable pub field_of : FieldData → Field
field_of line = record { name = line.declaration.name; offset = line.offset; size = line.size; signed = line.signed; kind = kind_of line; place = place_of line.declaration.kind_text; element = element_of line.size line.declaration.count }
