use Rattle.std.specs.Prelude.{ℕ, zero, suc, List, [], ◌∷◌, map, drop}
use Rattle.filter_lang.specs.TokenView.{plain_token}
use Rattle.filter_lang.specs.Texts.{Lexeme, lexeme}
use Rattle.filter_lang.specs.declared.token.Token.{Token}

abbrev pub lexemes_of : List ℕ → List Token → List Lexeme
lexemes_of text ts = map (λ (t : Token). lexeme (plain_token t.word) (drop t.start text)) ts

-- the place of a token, or the end where there is none
abbrev pub place_in : ℕ → List Token → ℕ → ℕ
place_in end [] i = end
place_in end (t ∷ ts) zero = t.start
place_in end (t ∷ ts) (suc i) = place_in end ts i
