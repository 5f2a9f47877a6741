-- The tokens of a print fmt, the C expression at the end of an event's format (events.rst of Linux).
use Rattle.std.specs.Prelude.{◌≡◌, ℕ, ◌<◌, ◌≤◌, ◌⊎◌, false, List, length, slice_index, slice_range, IsTrue}
use Rattle.std.specs.List.{All, AllPairs, AllPass}
use Rattle.std.specs.Char.{is_ascii_digit}
use Rattle.fmt_lexer.specs.declared.number.Base.{Base}
use Rattle.fmt_lexer.specs.declared.token.Token.{Token}
use Rattle.fmt_lexer.specs.declared.token.TokenKind.{TokenKind}
use Rattle.fmt_lexer.specs.declared.token.TokenKind.TheVariants.{Name, Number, Letter, Text, Mark}
use Rattle.byte_classes.specs.Bytes.{is_blank, is_word}
use Rattle.fmt_lexer.specs.Number.{IsNumber}
use Rattle.fmt_lexer.specs.Quoted.{IsLetter, IsText}
use Rattle.fmt_lexer.specs.Mark.{IsMark}

-- letters, digits and `_`, the first of them no digit
pub record IsName (bytes : List ℕ) : Type 0 where
  pub some : 0 < length bytes
  pub each : AllPass is_word bytes
  pub no_digit : is_ascii_digit (slice_index bytes 0) ≡ false

-- the bytes spell a token of the kind
abbrev pub Spells : TokenKind → List ℕ → Type 0
Spells Name bytes = IsName bytes
Spells Number bytes = (base : Base) × (digits : List ℕ) × (suffix : List ℕ) × IsNumber bytes base digits suffix
Spells Letter bytes = IsLetter bytes
Spells Text bytes = IsText bytes
Spells Mark bytes = IsMark bytes

-- the bytes of a text that a token stands for
abbrev pub bytes_of : List ℕ → Token → List ℕ
bytes_of text token = slice_range text token.start token.end

-- The token's bytes spell its kind. From its start on, no more bytes spell a token of any kind; and a
-- number is all of a run of letters, digits and `_`.
pub record IsTokenOf (text : List ℕ) (token : Token) : Type 0 where
  pub within : token.end ≤ length text
  pub spelled : Spells token.kind (bytes_of text token)
  pub longest : (kind : TokenKind) (end : ℕ) → token.end < end → end ≤ length text → Spells kind (slice_range text token.start end) → ⊥
  pub whole_run : token.kind ≡ Number → token.end < length text → IsTrue (is_word (slice_index text token.end)) → ⊥

-- the place is not in the token
abbrev pub IsOutside : ℕ → Token → Type 0
IsOutside place token = (place < token.start) ⊎ (token.end ≤ place)

-- These are the tokens of the text, in order and without overlap, and only blanks stand outside them.
pub record AreTokens (text : List ℕ) (tokens : List Token) : Type 0 where
  pub each : All (IsTokenOf text) tokens
  pub in_order : AllPairs (λ one later. one.end ≤ later.start) tokens
  pub blanks : (place : ℕ) → place < length text → All (IsOutside place) tokens → IsTrue (is_blank (slice_index text place))
