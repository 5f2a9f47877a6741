-- What trees are read from, and what stands at a place in it.
use Rattle.std.specs.Prelude.{ℕ, Bool, true, false, List, Option, Some, None, option_map, option_and_then, slice_get, bytes_eq}
use Rattle.fmt_lexer.specs.declared.token.Token.{Token}
use Rattle.fmt_lexer.specs.declared.token.TokenKind.{TokenKind}
use Rattle.fmt_lexer.specs.declared.token.TokenKind.TheVariants.{Name, Number, Letter, Text, Mark}
use Rattle.fmt_lexer.specs.Tokens.{bytes_of}
use Rattle.fmt_literal.specs.declared.ckind.CKind.{CKind}
use Rattle.fmt_literal.specs.declared.ckind.CKind.TheVariants.{I32}
use Rattle.fmt_literal.specs.Numeral.{numeral_of}
use Rattle.fmt_literal.specs.Quoted.{letter_of, text_of}
use Rattle.trace_base.specs.declared.field.Field.{Field}
use Rattle.trace_base.specs.declared.field.FieldPlace.{FieldPlace}
use Rattle.trace_base.specs.declared.field.FieldPlace.TheVariants.{Fixed, DataLoc, RelLoc}

pub record Source : Type 0 where
  pub text : List ℕ
  pub tokens : List Token
  pub fields : List Field
  -- the size of the kernel's long
  pub long : ℕ

-- the bytes of a mark, or of a name
abbrev pub as_mark : TokenKind → List ℕ → Option (List ℕ)
as_mark Name bytes = None
as_mark Number bytes = None
as_mark Letter bytes = None
as_mark Text bytes = None
as_mark Mark bytes = Some bytes

abbrev pub as_name : TokenKind → List ℕ → Option (List ℕ)
as_name Name bytes = Some bytes
as_name Number bytes = None
as_name Letter bytes = None
as_name Text bytes = None
as_name Mark bytes = None

-- the bytes that a text stands for
abbrev pub as_text : TokenKind → List ℕ → Option (List ℕ)
as_text Name bytes = None
as_text Number bytes = None
as_text Letter bytes = None
as_text Text bytes = Some (text_of bytes)
as_text Mark bytes = None

abbrev pub as_int : ℕ → ℕ × CKind
as_int b = (b, I32)

-- a number with its kind; a letter is the number of its byte, 0 to 255, and an int
abbrev pub as_constant : ℕ → TokenKind → List ℕ → Option (ℕ × CKind)
as_constant long Name bytes = None
as_constant long Number bytes = numeral_of bytes long
as_constant long Letter bytes = option_map as_int (letter_of bytes)
as_constant long Text bytes = None
as_constant long Mark bytes = None

-- what the token at a place is
unfoldable pub mark_at : Source → ℕ → Option (List ℕ)
mark_at s i = option_and_then (λ t. as_mark t.kind (bytes_of s.text t)) (slice_get s.tokens i)

unfoldable pub name_at : Source → ℕ → Option (List ℕ)
name_at s i = option_and_then (λ t. as_name t.kind (bytes_of s.text t)) (slice_get s.tokens i)

unfoldable pub literal_at : Source → ℕ → Option (List ℕ)
literal_at s i = option_and_then (λ t. as_text t.kind (bytes_of s.text t)) (slice_get s.tokens i)

unfoldable pub constant_at : Source → ℕ → Option (ℕ × CKind)
constant_at s i = option_and_then (λ t. as_constant s.long t.kind (bytes_of s.text t)) (slice_get s.tokens i)

abbrev pub is_text : Option (List ℕ) → List ℕ → Bool
is_text None text = false
is_text (Some bytes) text = bytes_eq bytes text

unfoldable pub is_mark : Source → ℕ → List ℕ → Bool
is_mark s i mark = is_text (mark_at s i) mark

unfoldable pub is_name : Source → ℕ → List ℕ → Bool
is_name s i name = is_text (name_at s i) name

abbrev pub is_dynamic : FieldPlace → Bool
is_dynamic Fixed = false
is_dynamic DataLoc = true
is_dynamic RelLoc = true
