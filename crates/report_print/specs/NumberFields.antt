-- Numbers of events, by where they stand.
use Rattle.std.specs.Prelude.{ℕ, ℤ, ◌%◌, ◌^◌, ◌&&◌, if◌then◌else◌, List, Option, Some, None}
use Rattle.std.specs.Int.{cast_signed, cast_unsigned, w32, w128}
use Rattle.trace_base.specs.declared.order.Order.{Order}
use Rattle.trace_base.specs.declared.field.Field.{Field}
use Rattle.trace_base.specs.Fields.{has_number, is_number, sized, unsigned_in}
use Rattle.report_print.specs.declared.number_field.NumberField.{NumberField}

-- where a field's number stands, and whether it has a sign, as only a number may have
abbrev pub place_of : Field → NumberField
place_of field = record { offset = field.offset; size = field.size; signed = is_number field.kind && field.signed }

-- the place of a field that is a number, and of one that is a number or an address
abbrev pub number_field : Field → Option NumberField
number_field field = if is_number field.kind then Some (place_of field) else None

abbrev pub counted_field : Field → Option NumberField
counted_field field = if has_number field.kind then Some (place_of field) else None

-- the same of a field that may be missing
abbrev pub of_number : Option Field → Option NumberField
of_number None = None
of_number (Some field) = number_field field

abbrev pub of_counted : Option Field → Option NumberField
of_counted None = None
of_counted (Some field) = counted_field field

-- the exact number, and 0 where one of its bytes is missing
abbrev pub number_at : Order → List ℕ → NumberField → ℤ
number_at order payload field = sized field.signed field.size (unsigned_in order payload field.offset field.size)

-- the same modulo 2^32
unfoldable pub low_32 : Order → List ℕ → NumberField → ℕ
low_32 order payload field = cast_unsigned w128 (number_at order payload field) % 2 ^ 32

-- that as a number of 32 bits with a sign
abbrev pub signed_32 : Order → List ℕ → NumberField → ℤ
signed_32 order payload field = cast_signed w32 (low_32 order payload field)
