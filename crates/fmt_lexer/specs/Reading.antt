-- What stands at the front of a list of bytes, computed.
use Rattle.std.specs.Prelude.{ℕ, zero, suc, ◌+◌, ◌-◌, ◌^◌, Bool, true, false, ◌&&◌, max, nat_lt, nat_le, ◌==◌, if◌then◌else◌, List, [], ◌∷◌, length, take, drop, slice_index, Option, Some, None, option_and_then, is_some}
use Rattle.std.specs.List.{prefix_len, list_any, list_all}
use Rattle.std.specs.Option.{option_map}
use Rattle.std.specs.Char.{is_digit, is_ascii_digit, is_ascii_hexdigit}
use Rattle.std.specs.Str.Parse.{digits_value}
use Rattle.fmt_lexer.specs.declared.number.Base.{Base}
use Rattle.fmt_lexer.specs.declared.number.Base.TheVariants.{Decimal, Hexadecimal, Octal}
use Rattle.fmt_lexer.specs.declared.token.Token.{Token}
use Rattle.fmt_lexer.specs.declared.token.TokenKind.{TokenKind}
use Rattle.fmt_lexer.specs.declared.token.TokenKind.TheVariants.{Name, Number, Letter, Text, Mark}
use Rattle.byte_classes.specs.Bytes.{is_blank, is_word}
use Rattle.fmt_lexer.specs.Bytes.{apostrophe, quote, backslash, is_octal}
use Rattle.fmt_lexer.specs.Number.{radix_of, is_unsigned, is_long}
use Rattle.fmt_lexer.specs.Mark.{long_marks, short_marks}

-- the base of a number, and what follows its prefix
unfoldable pub split_prefix : List ℕ → Base × List ℕ
split_prefix bytes =
    if slice_index bytes 0 == 48 then
    (if slice_index bytes 1 == 120 then (Hexadecimal, drop 2 bytes) else (Octal, drop 1 bytes))
    else (Decimal, bytes)

-- whether there are digits enough
abbrev pub has_digits : Base → List ℕ → Bool
has_digits Decimal digits = nat_lt 0 (length digits)
has_digits Hexadecimal digits = nat_lt 0 (length digits)
has_digits Octal digits = true

-- a suffix without its `u`
unfoldable pub longs_of : List ℕ → List ℕ
longs_of suffix =
    if is_unsigned (slice_index suffix 0) then drop 1 suffix
    else (if is_unsigned (slice_index suffix (length suffix - 1)) then take (length suffix - 1) suffix else suffix)

-- what is left is no `l`, one or two
unfoldable pub is_suffix : List ℕ → Bool
is_suffix suffix = nat_le (length (longs_of suffix)) 2 && list_all is_long (longs_of suffix)

-- how many digits stand at the front
abbrev pub digits_len : Base → List ℕ → ℕ
digits_len base bytes = prefix_len (λ b. is_digit b (radix_of base)) bytes

-- the base, the digits and the suffix that follow a prefix
unfoldable pub parts_behind : Base → List ℕ → Option (Base × List ℕ × List ℕ)
parts_behind base rest =
    let digits = take (digits_len base rest) rest in
    let suffix = drop (digits_len base rest) rest in
    if (has_digits base digits && nat_lt (digits_value (radix_of base) digits) (2 ^ 64)) && is_suffix suffix then Some (base, digits, suffix) else None

-- those of a number that is all of the bytes
unfoldable pub number_parts : List ℕ → Option (Base × List ℕ × List ℕ)
number_parts bytes = parts_behind (split_prefix bytes).0 (split_prefix bytes).1

-- after a backslash: `x` and two hexadecimal digits
unfoldable pub is_hexadecimal : List ℕ → Bool
is_hexadecimal bytes = ((nat_le 3 (length bytes) && slice_index bytes 0 == 120) && is_ascii_hexdigit (slice_index bytes 1)) && is_ascii_hexdigit (slice_index bytes 2)

-- the length of an escape after its backslash
unfoldable pub escape_len : List ℕ → Option ℕ
escape_len bytes =
    if length bytes == 0 then None
    else (if is_hexadecimal bytes then Some 3 else Some (max (prefix_len is_octal (take 3 bytes)) 1))

-- the length of a byte by itself or of an escape, in a letter
unfoldable pub item_len : List ℕ → Option ℕ
item_len bytes =
    if length bytes == 0 then None
    else (if slice_index bytes 0 == apostrophe then None
    else (if slice_index bytes 0 == backslash then option_map (λ n. 1 + n) (escape_len (drop 1 bytes)) else Some 1))

-- the length of a letter's item and of the mark that closes it
unfoldable pub closed : List ℕ → ℕ → Option ℕ
closed bytes item = if nat_lt item (length bytes) && slice_index bytes item == apostrophe then Some (item + 1) else None

-- the length of a letter after its first mark
unfoldable pub letter_len : List ℕ → Option ℕ
letter_len bytes = option_and_then (closed bytes) (item_len bytes)

-- the length of the rest of a text, where the byte before it may be a backslash that begins an escape
unfoldable pub text_from : Bool → List ℕ → Option ℕ
text_from escaped [] = None
text_from true (b ∷ bytes) = option_map (λ n. 1 + n) (text_from false bytes)
text_from false (b ∷ bytes) = if b == quote then Some 1 else option_map (λ n. 1 + n) (text_from (b == backslash) bytes)

-- the length of a text after its first mark
unfoldable pub text_len : List ℕ → Option ℕ
text_len bytes = text_from false bytes

-- whether two bytes, or one, are a mark of the tables
unfoldable pub is_long_mark : ℕ → ℕ → Bool
is_long_mark a b = list_any (λ mark. a == slice_index mark 0 && b == slice_index mark 1) long_marks

unfoldable pub is_short_mark : ℕ → Bool
is_short_mark b = list_any (λ m. m == b) short_marks

-- the length of the longest mark at the front
unfoldable pub mark_len : List ℕ → Option ℕ
mark_len bytes =
    if nat_le 2 (length bytes) && is_long_mark (slice_index bytes 0) (slice_index bytes 1) then Some 2
    else (if nat_le 1 (length bytes) && is_short_mark (slice_index bytes 0) then Some 1 else None)

-- the kind of token that a byte begins, if it begins one
unfoldable pub kind_from : ℕ → TokenKind
kind_from b =
    if b == apostrophe then Letter
    else (if b == quote then Text
    else (if is_ascii_digit b then Number
    else (if is_word b then Name else Mark)))

-- the length of a number: all of a run of letters, digits and `_`
unfoldable pub number_len : List ℕ → Option ℕ
number_len bytes = if is_some (number_parts (take (prefix_len is_word bytes) bytes)) then Some (prefix_len is_word bytes) else None

-- the length of the token that the bytes begin with, if it is of the kind
unfoldable pub len_as : TokenKind → List ℕ → Option ℕ
len_as Name bytes = Some (prefix_len is_word bytes)
len_as Number bytes = number_len bytes
len_as Letter bytes = option_map (λ n. 1 + n) (letter_len (drop 1 bytes))
len_as Text bytes = option_map (λ n. 1 + n) (text_len (drop 1 bytes))
len_as Mark bytes = mark_len bytes

-- the kind and the length of the token that the bytes begin with
unfoldable pub first_token : List ℕ → Option (TokenKind × ℕ)
first_token bytes =
    let kind = kind_from (slice_index bytes 0) in
    if length bytes == 0 then None else option_map (λ n. (kind, n)) (len_as kind bytes)

-- the token that begins at a place of a text
unfoldable pub token_at : List ℕ → ℕ → Option Token
token_at text at = option_map (λ t. record { kind = t.0; start = at; end = at + t.1 }) (first_token (drop at text))

-- The tokens of the bytes from a place on, where so many of these are in a token already.
unfoldable pub tokens_from : ℕ → ℕ → List ℕ → Option (List Token)
tokens_from skip at [] = Some []
tokens_from (suc skip) at (b ∷ bytes) = tokens_from skip (at + 1) bytes
tokens_from zero at (b ∷ bytes) =
    if is_blank b then tokens_from zero (at + 1) bytes
    else option_and_then (λ t. option_map (λ ts. record { kind = t.0; start = at; end = at + t.1 } ∷ ts) (tokens_from (t.1 - 1) (at + 1) bytes)) (first_token (b ∷ bytes))

-- the tokens of a text whose places are numbers of 32 bits
unfoldable pub tokens_of : List ℕ → Option (List Token)
tokens_of text = if nat_lt (length text) (2 ^ 32) then tokens_from 0 0 text else None
