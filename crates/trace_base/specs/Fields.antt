-- The fields of a record, read from its payload.
use Rattle.std.specs.Prelude.{ℕ, ◌+◌, ◌*◌, ◌/◌, ◌%◌, ◌^◌, ℤ, pos, ◌-ℤ◌, Bool, true, false, nat_lt, nat_le, ◌==◌, ◌||◌, ◌&&◌, if◌then◌else◌, List, length, take, drop, Option}
use Rattle.std.specs.List.{find}
use Rattle.std.specs.Str.{bytes_eq}
use Rattle.trace_base.specs.declared.order.Order.{Order}
use Rattle.trace_base.specs.Number.{num}
use Rattle.trace_base.specs.declared.field.Field.{Field}
use Rattle.trace_base.specs.declared.field.FieldKind.{FieldKind}
use Rattle.trace_base.specs.declared.field.FieldKind.TheVariants as kinds
use Rattle.trace_base.specs.declared.field.FieldPlace.{FieldPlace}
use Rattle.trace_base.specs.declared.field.FieldPlace.TheVariants.{Fixed, DataLoc, RelLoc}

-- the first field of the name
abbrev pub field_named : List ℕ → List Field → Option Field
field_named name fields = find (λ field. bytes_eq field.name name) fields

-- the sizes of numbers
abbrev pub is_size : ℕ → Bool
is_size n = ((n == 1 || n == 2) || n == 4) || n == 8

-- the unsigned number of so many bytes at a place, and 0 where one of them is missing
unfoldable pub unsigned_in : Order → List ℕ → ℕ → ℕ → ℕ
unsigned_in order payload at size = if is_size size then (if nat_le (at + size) (length payload) then num order (take size (drop at payload)) else 0) else 0

-- the number of so many bytes as two's complement
abbrev pub half : ℕ → ℕ
half size = if size == 1 then 2 ^ 7 else (if size == 2 then 2 ^ 15 else (if size == 4 then 2 ^ 31 else 2 ^ 63))

unfoldable pub signed_of : ℕ → ℕ → ℤ
signed_of size n = if nat_lt n (half size) then pos n else pos n -ℤ pos (2 * half size)

abbrev pub has_number : FieldKind → Bool
has_number kinds.Number = true
has_number kinds.Pointer = true
has_number kinds.Text = false
has_number kinds.Bytes = false

-- only a number has a sign: a pointer is unsigned of its size
abbrev pub is_number : FieldKind → Bool
is_number kinds.Number = true
is_number kinds.Pointer = false
is_number kinds.Text = false
is_number kinds.Bytes = false

-- so many bytes as a number, by a sign
abbrev pub sized : Bool → ℕ → ℕ → ℤ
sized signed size n = if signed then signed_of size n else pos n

-- the exact value of a number or pointer, and 0 of any other field
unfoldable pub number_in : Order → List ℕ → Field → ℤ
number_in order payload field =
    let n = unsigned_in order payload field.offset field.size in
    if has_number field.kind then sized (is_number field.kind && field.signed) field.size n else pos 0

-- where a field's bytes begin, and how many they are
abbrev pub place_by : FieldPlace → ℕ → ℕ → ℕ → ℕ → ℕ × ℕ
place_by Fixed at size all word = (at, if size == 0 then all else size)
place_by DataLoc at size all word = (word % 2 ^ 16, word / 2 ^ 16)
place_by RelLoc at size all word = (at + size + word % 2 ^ 16, word / 2 ^ 16)

unfoldable pub place_in : Order → List ℕ → Field → ℕ × ℕ
place_in order payload field = place_by field.place field.offset field.size (length payload) (unsigned_in order payload field.offset 4)

-- the field's bytes, as far as the payload has them
unfoldable pub bytes_in : Order → List ℕ → Field → List ℕ
bytes_in order payload field = let place = place_in order payload field in take place.1 (drop place.0 payload)
