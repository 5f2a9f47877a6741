-- The tokens so far, and what further tokens make of them.
use Rattle.std.proofs.Common.{◌≡◌, ℕ, suc, ◌+◌, ◌<◌, ◌≤◌, Bool, true, false, ◌||◌, List, [], ◌∷◌, ◌++◌, length, drop, get_or, Some, None, refl, ap, sym, ◌∙◌, subst, arith}
use Rattle.std.proofs.Math.Seq.{drop-cons}
use Rattle.std.proofs.lemmas.List.{append-nil, drop-drop, drop_all}
use Rattle.filter_lang.specs.TokenView.{plain_token}
use Rattle.byte_classes.specs.Bytes.{is_blank}
use Rattle.filter_lang.specs.Lexing.{token_in, is_colon}
use Rattle.filter_lang.specs.Texts.{Lexeme, lexeme, AreLexemes, ended, blank, fault, token}
use Rattle.filter_lang.specs.LexedView.{lexemes_of}
use Rattle.filter_lang.specs.declared.token.Token.{Token}

-- what begins at a place, with the tokens before it, is all of the text's tokens
abbrev pub Continues : List ℕ → Bool → ℕ → List Token → Type 0
Continues text b at done = (row : List Lexeme) (rest : List ℕ) → AreLexemes b (drop at text) row rest → AreLexemes false text (lexemes_of text done ++ row) rest

here : (text : List ℕ) (at : ℕ) → at < length text → drop at text ≡ get_or text at 0 ∷ drop (at + 1) text
here text at lt = let next : suc at ≡ at + 1 = omega arith in drop-cons text at 0 lt ∙ ap (λ k. get_or text at 0 ∷ drop k text) next

pub over_blank : (text : List ℕ) (b : Bool) (at : ℕ) (done : List Token) → at < length text → is_blank (get_or text at 0) ≡ true → Continues text b at done → Continues text b (at + 1) done
over_blank text b at done lt is k row rest d = k row rest (subst (λ (zs : List ℕ). AreLexemes b zs row rest) (sym (here text at lt)) (blank is d))

pub no_token_there : (text : List ℕ) (b : Bool) (at : ℕ) (done : List Token) → at < length text → is_blank (get_or text at 0) ≡ false → token_in b (drop at text) ≡ None → Continues text b at done
    → AreLexemes false text (lexemes_of text done) (drop at text)
no_token_there text b at done lt is none k =
    let e = here text at lt in
    let d : AreLexemes b (get_or text at 0 ∷ drop (at + 1) text) [] (get_or text at 0 ∷ drop (at + 1) text) = fault is (ap (token_in b) (sym e) ∙ none) in
    let whole = k [] (drop at text) (subst (λ (zs : List ℕ). AreLexemes b zs [] zs) (sym e) d) in
    subst (λ (zs : List Lexeme). AreLexemes false text zs (drop at text)) (append-nil (lexemes_of text done)) whole

pub all_lexed : (text : List ℕ) (b : Bool) (at : ℕ) (done : List Token) → length text ≤ at → Continues text b at done → AreLexemes false text (lexemes_of text done) (drop at text)
all_lexed text b at done le k =
    let e : drop at text ≡ [] = drop_all at text le in
    let d : AreLexemes b [] [] [] = ended in
    let whole = k [] (drop at text) (subst (λ (zs : List ℕ). AreLexemes b zs [] zs) (sym e) d) in
    subst (λ (zs : List Lexeme). AreLexemes false text zs (drop at text)) (append-nil (lexemes_of text done)) whole

pushed : (text : List ℕ) (done : List Token) (t : Token) (row : List Lexeme) → lexemes_of text done ++ lexeme (plain_token t.word) (drop t.start text) ∷ row ≡ lexemes_of text (done ++ t ∷ []) ++ row
pushed text [] t row = refl
pushed text (u ∷ done) t row = ap (λ (zs : List Lexeme). lexeme (plain_token u.word) (drop u.start text) ∷ zs) (pushed text done t row)

pub over_token : (text : List ℕ) (b : Bool) (at n : ℕ) (done : List Token) (t : Token) → at < length text → is_blank (get_or text at 0) ≡ false → token_in b (drop at text) ≡ Some (plain_token t.word, n) → t.start ≡ at
    → Continues text b at done → Continues text (b || is_colon (plain_token t.word)) (at + (n + 1)) (done ++ t ∷ [])
over_token text b at n done t lt is there start k row rest d =
    let e = here text at lt in
    let behind : drop (at + (n + 1)) text ≡ drop n (drop (at + 1) text) = ap (λ k. drop k text) (omega arith) ∙ sym (drop-drop n (at + 1) text) in
    let more : AreLexemes b (get_or text at 0 ∷ drop (at + 1) text) (lexeme (plain_token t.word) (get_or text at 0 ∷ drop (at + 1) text) ∷ row) rest =
    token is (ap (token_in b) (sym e) ∙ there) (subst (λ (zs : List ℕ). AreLexemes (b || is_colon (plain_token t.word)) zs row rest) behind d) in
    let placed : AreLexemes b (drop at text) (lexeme (plain_token t.word) (drop t.start text) ∷ row) rest =
    subst (λ (k : ℕ). AreLexemes b (drop at text) (lexeme (plain_token t.word) (drop k text) ∷ row) rest) (sym start) (subst (λ (zs : List ℕ). AreLexemes b zs (lexeme (plain_token t.word) zs ∷ row) rest) (sym e) more) in
    subst (λ (zs : List Lexeme). AreLexemes false text zs rest) (pushed text done t row) (k (lexeme (plain_token t.word) (drop t.start text) ∷ row) rest placed)
