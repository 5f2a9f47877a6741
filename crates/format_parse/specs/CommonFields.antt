-- The fields that the records of all events have. Nearly every format begins its fields with these lines.
-- Source: the kernel's Documentation/trace/events.rst, 'Event formats'.
use Rattle.std.specs.Prelude.{◌≡◌, ℕ, Bool, ◌||◌, ◌==◌, true, false, List, [], ◌∷◌, ◌++◌, map, codes}
use Rattle.trace_base.specs.declared.field.Field.{Field}
use Rattle.trace_base.specs.declared.field.FieldKind.TheVariants.{Number}
use Rattle.trace_base.specs.declared.field.FieldPlace.TheVariants.{Fixed}
use Rattle.text_lines.specs.Lines.{lines_of}
use Rattle.format_parse.specs.FieldKinds.{field_of}
use Rattle.format_parse.specs.Format.{field_data, print_text}

-- the lines that declare them
unfoldable pub common_lines : List ℕ
common_lines = codes "\tfield:unsigned short common_type;\toffset:0;\tsize:2;\tsigned:0;\n\tfield:unsigned char common_flags;\toffset:2;\tsize:1;\tsigned:0;\n\tfield:unsigned char common_preempt_count;\toffset:3;\tsize:1;\tsigned:0;\n\tfield:int common_pid;\toffset:4;\tsize:4;\tsigned:1;\n"

-- a number at its own place
abbrev pub number : List ℕ → ℕ → ℕ → Bool → Field
number name offset size signed = record { name = name; offset = offset; size = size; signed = signed; kind = Number; place = Fixed; element = 1 }

unfoldable pub common_fields : List Field
common_fields = number (codes "common_type") 0 2 false ∷ number (codes "common_flags") 2 1 false ∷ number (codes "common_preempt_count") 3 1 false ∷ number (codes "common_pid") 4 4 true ∷ []

-- fields are read from a text up to the lines that follow
pub record ReadsOn (text : List ℕ) (before after : List Field) (behind : List (List ℕ)) : Type 0 where
  pub fields : after ++ map field_of (field_data behind) ≡ before ++ map field_of (field_data (lines_of text))
  pub print : print_text behind ≡ print_text (lines_of text)

-- a byte with which a field line may begin: a blank or the first letter of `field:`
abbrev pub may_begin : ℕ → Bool
may_begin byte = (((byte == 32 || byte == 9) || byte == 10) || byte == 13) || byte == 102
