-- The bytes that letters and texts stand for (C11 6.4.4.4 and 6.4.5): each byte for itself, and each escape for one byte.
use Rattle.std.specs.Prelude.{◌≡◌, ◌≢◌, ℕ, zero, suc, ◌+◌, ◌-◌, ◌*◌, ◌%◌, Bool, false, not, ◌&&◌, ◌==◌, nat_le, if◌then◌else◌, List, [], ◌∷◌, length, slice_index, Option, Some, None, IsTrue}
use Rattle.std.specs.List.{list_any}
use Rattle.std.specs.Char.{is_ascii_hexdigit, digit_value}
use Rattle.fmt_lexer.specs.Bytes.{backslash, is_octal}

-- `n`, `t` and `r` name newline, tab and carriage return; any other byte names itself
abbrev pub named : ℕ → ℕ
named b = if b == 110 then 10 else (if b == 116 then 9 else (if b == 114 then 13 else b))

-- the value of an octal digit
abbrev pub octal : ℕ → ℕ
octal b = b - 48

-- bytes that do not begin with an octal digit
abbrev pub NoOctal : List ℕ → Type 0
NoOctal [] = Unit {0}
NoOctal (b ∷ bytes) = is_octal b ≡ false

-- the bytes of these escapes after their backslash, where they stand at the front
unfoldable pub hexadecimal_in : List ℕ → Option ℕ
hexadecimal_in bytes =
    if nat_le 3 (length bytes) && (slice_index bytes 0 == 120 && (is_ascii_hexdigit (slice_index bytes 1) && is_ascii_hexdigit (slice_index bytes 2)))
    then Some (16 * digit_value (slice_index bytes 1) + digit_value (slice_index bytes 2)) else None

unfoldable pub three_in : List ℕ → Option ℕ
three_in bytes =
    if nat_le 3 (length bytes) && (is_octal (slice_index bytes 0) && (is_octal (slice_index bytes 1) && is_octal (slice_index bytes 2)))
    then Some ((64 * octal (slice_index bytes 0) + 8 * octal (slice_index bytes 1) + octal (slice_index bytes 2)) % 256) else None

unfoldable pub two_in : List ℕ → Option ℕ
two_in bytes =
    if nat_le 2 (length bytes) && (is_octal (slice_index bytes 0) && is_octal (slice_index bytes 1))
    then Some (8 * octal (slice_index bytes 0) + octal (slice_index bytes 1)) else None

unfoldable pub one_in : List ℕ → Option ℕ
one_in bytes = if nat_le 1 (length bytes) && is_octal (slice_index bytes 0) then Some (octal (slice_index bytes 0)) else None

-- Bytes and what they stand for. An octal escape has as many digits as there are, up to three, and its number counts
-- modulo 256; a hexadecimal escape has two digits; a backslash before any other byte names it. A backslash that
-- nothing follows stands for itself.
pub data StandsFor : List ℕ → List ℕ → Type 0 where
  ended : StandsFor [] []
  itself : {b : ℕ} {rest out : List ℕ} → b ≢ backslash → StandsFor rest out → StandsFor (b ∷ rest) (b ∷ out)
  hexadecimal : {high low : ℕ} {rest out : List ℕ} → IsTrue (is_ascii_hexdigit high) → IsTrue (is_ascii_hexdigit low) → StandsFor rest out
      → StandsFor (backslash ∷ 120 ∷ high ∷ low ∷ rest) ((16 * digit_value high + digit_value low) ∷ out)
  three_digits : {a b c : ℕ} {rest out : List ℕ} → IsTrue (is_octal a) → IsTrue (is_octal b) → IsTrue (is_octal c) → StandsFor rest out
      → StandsFor (backslash ∷ a ∷ b ∷ c ∷ rest) (((64 * octal a + 8 * octal b + octal c) % 256) ∷ out)
  two_digits : {a b : ℕ} {rest out : List ℕ} → IsTrue (is_octal a) → IsTrue (is_octal b) → NoOctal rest → StandsFor rest out
      → StandsFor (backslash ∷ a ∷ b ∷ rest) ((8 * octal a + octal b) ∷ out)
  one_digit : {a : ℕ} {rest out : List ℕ} → IsTrue (is_octal a) → NoOctal rest → StandsFor rest out → StandsFor (backslash ∷ a ∷ rest) (octal a ∷ out)
  by_name : {b : ℕ} {rest out : List ℕ} → is_octal b ≡ false → hexadecimal_in (b ∷ rest) ≡ None → StandsFor rest out → StandsFor (backslash ∷ b ∷ rest) (named b ∷ out)
  alone : StandsFor (backslash ∷ []) (backslash ∷ [])

-- a byte, and how many bytes of a row spell it
pub record Item : Type 0 where
  pub byte : ℕ
  pub len : ℕ

abbrev pub spelled : ℕ → ℕ → Item
spelled byte len = record { byte = byte; len = len }

-- the byte, if there is one, or else another item
abbrev pub or_else : Option ℕ → ℕ → Item → Item
or_else (Some byte) len other = spelled byte len
or_else None len other = other

abbrev pub plain_in : List ℕ → Item
plain_in [] = spelled backslash 0
plain_in (b ∷ bytes) = spelled (named b) 1

-- the escape whose backslash stands before these bytes
unfoldable pub escape : List ℕ → Item
escape bytes = or_else (hexadecimal_in bytes) 3 (or_else (three_in bytes) 3 (or_else (two_in bytes) 2 (or_else (one_in bytes) 1 (plain_in bytes))))

-- what a byte and some of those after it stand for
unfoldable pub item : ℕ → List ℕ → Item
item b bytes = if b == backslash then escape bytes else spelled b 0

-- whether no byte begins an escape
abbrev pub is_plain : List ℕ → Bool
is_plain bytes = not (list_any (λ b. b == backslash) bytes)

-- what bytes stand for, where so many of them were read already
unfoldable pub meant : ℕ → List ℕ → List ℕ
meant skip [] = []
meant (suc skip) (b ∷ bytes) = meant skip bytes
meant zero (b ∷ bytes) = (item b bytes).byte ∷ meant (item b bytes).len bytes
