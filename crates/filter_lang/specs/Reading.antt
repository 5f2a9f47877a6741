-- The reading of a text, computed: the filter that it is, or the place where it is refused.
use Rattle.std.specs.Prelude.{ℕ, zero, suc, ◌-◌, Bool, false, ◌||◌, List, [], ◌∷◌, length, drop, Option, Some, None, Result, Ok, Err, if◌then◌else◌}
use Rattle.filter_lang.specs.PlainToken.{PlainToken}
use Rattle.filter_lang.specs.Filter.{FilterData}
use Rattle.byte_classes.specs.Bytes.{is_blank}
use Rattle.filter_lang.specs.Lexing.{Cut, token_in, is_colon}
use Rattle.filter_lang.specs.Texts.{Lexeme, lexeme, tokens_in}
use Rattle.filter_lang.specs.ConditionReading.{Parsed, found, refused}
use Rattle.filter_lang.specs.FilterReading.{filter_in}

-- tokens, and the text from the place on at which none begins
pub record Lexed : Type 0 where
  pub row : List Lexeme
  pub rest : List ℕ

abbrev pub lexed : List Lexeme → List ℕ → Lexed
lexed row rest = record { row = row; rest = rest }

abbrev pub behind_token : List ℕ → (PlainToken → ℕ → Lexed) → Option Cut → Lexed
behind_token text more None = lexed [] text
behind_token text more (Some cut) =
    let behind = more cut.0 cut.1 in lexed (lexeme cut.0 text ∷ behind.row) behind.rest

-- the tokens from the left; each has a byte at least, so that as many turns as there are bytes are enough
unfoldable pub lex : ℕ → Bool → List ℕ → Lexed
lex turns b [] = lexed [] []
lex zero b (c ∷ bytes) = lexed [] (c ∷ bytes)
lex (suc turns) b (c ∷ bytes) =
    if is_blank c then lex turns b bytes
    else behind_token (c ∷ bytes) (λ t n. lex turns (b || is_colon t) (drop n bytes)) (token_in b (c ∷ bytes))

-- the text from the first of some tokens on, or from the end of all tokens on
abbrev pub from_first : List Lexeme → List ℕ → List ℕ
from_first [] rest = rest
from_first (l ∷ ls) rest = l.at

-- what the tokens of a text are, where no token begins at the rest
abbrev pub read_tokens : List ℕ → List Lexeme → List ℕ → Parsed FilterData → Result FilterData ℕ
read_tokens text row [] (found f ts) = Ok f
read_tokens text row (c ∷ rest) (found f ts) = Err (length text - length (c ∷ rest))
read_tokens text row rest (refused ts) =
    Err (length text - length (from_first (drop (length row - length ts) row) rest))

unfoldable pub reading : List ℕ → Result FilterData ℕ
reading text =
    let l = lex (length text) false text in read_tokens text l.row l.rest (filter_in (tokens_in l.row))
