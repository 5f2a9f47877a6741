-- The token that bytes begin with, as long as it can be. What stands before the first `:` of a filter has other tokens
-- than what follows it. Numbers and words are spelled as in C11 6.4.4.1 and 6.4.2.1.
use Rattle.std.specs.Prelude.{◌≡◌, ℕ, ◌+◌, ◌==◌, Bool, true, false, not, ◌||◌, List, [], ◌∷◌, length, take, nat_lt, bytes_eq, codes, Option, Some, None, if◌then◌else◌}
use Rattle.std.specs.List.{prefix_len}
use Rattle.std.specs.Char.{is_ascii_digit}
use Rattle.std.specs.Str.Parse.{digits_value}
use Rattle.c_operators.specs.Operators.{op_of}
use Rattle.c_operators.specs.declared.binary.BinaryOp.{BinaryOp}
use Rattle.fmt_lexer.specs.declared.number.Base.{Base}
use Rattle.byte_classes.specs.Bytes.{is_blank, is_word}
use Rattle.fmt_lexer.specs.Bytes.{quote, apostrophe}
use Rattle.fmt_lexer.specs.Number.{radix_of}
use Rattle.fmt_lexer.specs.Reading.{number_parts}
use Rattle.filter_lang.specs.PlainToken.{PlainToken, name, comma, slash, colon, digits, quoted, identifier, mark, exclamation, tilde, opening, closing}

-- no blank, and none of `,` `/` `:`
abbrev pub is_name_byte : ℕ → Bool
is_name_byte c = not (((is_blank c || c == 44) || c == 47) || c == 58)

-- a token, and how many bytes of it follow its first
abbrev pub Cut : Type 0
Cut = PlainToken × ℕ

-- before the first `:`: a mark of the list of events, or a name
unfoldable pub before_colon : ℕ → List ℕ → Option Cut
before_colon c bytes =
    if c == 44 then Some (comma, 0)
    else (if c == 47 then Some (slash, 0)
    else (if c == 58 then Some (colon, 0)
    else (let n = prefix_len is_name_byte bytes in Some (name (c ∷ take n bytes), n))))

-- the number that a run of letters, digits and `_` is as a whole: decimal, `0x` hexadecimal or `0` octal, below 2^64,
-- without a suffix
abbrev pub unsuffixed : Base → List ℕ → List ℕ → Option ℕ
unsuffixed base ds [] = Some (digits_value (radix_of base) ds)
unsuffixed base ds (s ∷ suffix) = None

abbrev pub value_of_parts : Option (Base × List ℕ × List ℕ) → Option ℕ
value_of_parts None = None
value_of_parts (Some parts) = unsuffixed parts.0 parts.1 parts.2

unfoldable pub number_in : List ℕ → Option ℕ
number_in run = value_of_parts (number_parts run)

abbrev pub number_cut : ℕ → Option ℕ → Option Cut
number_cut n None = None
number_cut n (Some value) = Some (digits value, n)

-- a text between two of its quotes, from just after the first; there are no escapes
abbrev pub text_cut : ℕ → List ℕ → Option Cut
text_cut mark' bytes =
    let n = prefix_len (λ c. not (c == mark')) bytes in if nat_lt n (length bytes) then Some (quoted (take n bytes), n + 1) else None

-- a mark that is no operator between two operands
abbrev pub other_mark : List ℕ → Option PlainToken
other_mark m =
    if bytes_eq m (codes "!") then Some exclamation
    else if bytes_eq m (codes "~") then Some tilde
    else if bytes_eq m (codes "(") then Some opening
    else if bytes_eq m (codes ")") then Some closing
    else if bytes_eq m (codes ":") then Some colon
    else None

abbrev pub op_or : Option BinaryOp → Option PlainToken → Option PlainToken
op_or (Some op) other = Some (mark op)
op_or None other = other

-- an operator of two bytes
unfoldable pub long_at : ℕ → List ℕ → Option BinaryOp
long_at c [] = None
long_at c (d ∷ bytes) = op_of (c ∷ d ∷ [])

-- an operator of one byte, or another mark
unfoldable pub short_at : ℕ → Option PlainToken
short_at c = op_or (op_of (c ∷ [])) (other_mark (c ∷ []))

-- the longer one, where both are there
abbrev pub marked : Option BinaryOp → Option PlainToken → Option Cut
marked (Some op) short = Some (mark op, 1)
marked None None = None
marked None (Some t) = Some (t, 0)

-- after the first `:`: a number, a word, a text, or a mark
unfoldable pub behind_colon : ℕ → List ℕ → Option Cut
behind_colon c bytes =
    let n = prefix_len is_word bytes in
    if is_ascii_digit c then number_cut n (number_in (c ∷ take n bytes))
    else (if is_word c then Some (identifier (c ∷ take n bytes), n)
    else (if c == quote || c == apostrophe then text_cut c bytes
    else marked (long_at c bytes) (short_at c)))

-- the token that the bytes begin with, if one begins there; the flag says whether a `:` stands before them
abbrev pub token_in : Bool → List ℕ → Option Cut
token_in b [] = None
token_in false (c ∷ bytes) = before_colon c bytes
token_in true (c ∷ bytes) = behind_colon c bytes

abbrev pub is_colon : PlainToken → Bool
is_colon colon = true
is_colon t = false

-- some bytes are the token, all of them
pub record IsWritten (b : Bool) (t : PlainToken) : Type 0 where
  pub first : ℕ
  pub bytes : List ℕ
  pub begins : is_blank first ≡ false
  pub is : token_in b (first ∷ bytes) ≡ Some (t, length bytes)

-- text can write these tokens, from before or from after the first `:` on
abbrev pub AreWritten : Bool → List PlainToken → Type 0
AreWritten b [] = Unit {0}
AreWritten b (t ∷ ts) = IsWritten b t × AreWritten (b || is_colon t) ts
