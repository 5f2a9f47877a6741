-- The tokens of a filter's text, and the text from the place on where it is refused.
use Rattle.std.specs.Prelude.{◌≡◌, ◌≢◌, ℕ, Bool, true, false, ◌||◌, List, [], ◌∷◌, ◌++◌, map, drop, Some, None}
use Rattle.filter_lang.specs.PlainToken.{PlainToken}
use Rattle.filter_lang.specs.Filter.{FilterData}
use Rattle.filter_lang.specs.Grammar.{IsFilter, RefusedBefore}
use Rattle.byte_classes.specs.Bytes.{is_blank}
use Rattle.filter_lang.specs.Lexing.{token_in, is_colon}

-- a token, and the text from its first byte on
pub record Lexeme : Type 0 where
  pub plain : PlainToken
  pub at : List ℕ

abbrev pub lexeme : PlainToken → List ℕ → Lexeme
lexeme plain at = record { plain = plain; at = at }

-- the tokens from the left, each as long as it can be, and the text from the place on at which none begins; the flag
-- says whether a `:` stands before the text
pub data AreLexemes : Bool → List ℕ → List Lexeme → List ℕ → Type 0 where
  ended : {b : Bool} → AreLexemes b [] [] []
  blank : {b : Bool} {c : ℕ} {bytes rest : List ℕ} {row : List Lexeme} → is_blank c ≡ true → AreLexemes b bytes row rest → AreLexemes b (c ∷ bytes) row rest
  fault : {b : Bool} {c : ℕ} {bytes : List ℕ} → is_blank c ≡ false → token_in b (c ∷ bytes) ≡ None → AreLexemes b (c ∷ bytes) [] (c ∷ bytes)
  token : {b : Bool} {c n : ℕ} {bytes rest : List ℕ} {row : List Lexeme} {t : PlainToken} → is_blank c ≡ false → token_in b (c ∷ bytes) ≡ Some (t, n)
      → AreLexemes (b || is_colon t) (drop n bytes) row rest → AreLexemes b (c ∷ bytes) (lexeme t (c ∷ bytes) ∷ row) rest

abbrev pub tokens_in : List Lexeme → List PlainToken
tokens_in row = map (λ (l : Lexeme). l.plain) row

-- the text of a filter
pub record IsFilterText (text : List ℕ) (f : FilterData) : Type 0 where
  pub row : List Lexeme
  pub lexes : AreLexemes false text row []
  pub is_filter : IsFilter (tokens_in row) f

-- Where a text is refused, as what stands from that place on: a token with which no filter goes on; the end of the
-- tokens, where more are wanted; or where no token begins after a whole filter.
pub data RefusedText : List ℕ → List ℕ → Type 0 where
  at_token : {text rest : List ℕ} (us vs : List Lexeme) (l : Lexeme) → AreLexemes false text (us ++ l ∷ vs) rest → RefusedBefore (tokens_in (us ++ l ∷ vs)) (tokens_in (l ∷ vs)) → RefusedText text l.at
  too_short : {text rest : List ℕ} {row : List Lexeme} → AreLexemes false text row rest → RefusedBefore (tokens_in row) [] → RefusedText text rest
  no_token : {text rest : List ℕ} {row : List Lexeme} {f : FilterData} → AreLexemes false text row rest → rest ≢ [] → IsFilter (tokens_in row) f → RefusedText text rest

-- With a blank and some further text after it the text is a filter's.
pub record TextGoesOn (text : List ℕ) : Type 0 where
  pub more : List ℕ
  pub made : FilterData
  pub whole : IsFilterText (text ++ 32 ∷ more) made
