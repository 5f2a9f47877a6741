-- The reading that is computed is the one that is said.
use Rattle.std.proofs.Common.{◌≡◌, ℕ, zero, suc, ◌+◌, ◌-◌, ◌≤◌, Bool, false, ◌||◌, List, [], ◌∷◌, ◌++◌, length, take, drop, Option, Some, None, Result, Ok, Err, refl, ap, sym, ◌∙◌, subst, arith, inl, inr}
use Rattle.std.proofs.lemmas.Bool.{cases_Bool}
use Rattle.std.proofs.lemmas.List.{length-drop, take-append-drop}
use Rattle.filter_lang.specs.PlainToken.{PlainToken}
use Rattle.filter_lang.specs.Filter.{FilterData}
use Rattle.filter_lang.specs.ConditionReading.{Parsed, found, refused}
use Rattle.filter_lang.specs.FilterReading.{filter_in}
use Rattle.filter_lang.specs.Grammar.{RefusedBefore}
use Rattle.byte_classes.specs.Bytes.{is_blank}
use Rattle.filter_lang.specs.Lexing.{Cut, token_in, is_colon}
use Rattle.filter_lang.specs.Texts.{Lexeme, AreLexemes, ended, blank, fault, token, tokens_in, IsFilterText, RefusedText, no_token}
use Rattle.filter_lang.specs.Reading.{Lexed, behind_token, lex, from_first, read_tokens, reading}
use Rattle.filter_lang.proofs.Filters.{filter_derived, filter_refused}
use Rattle.filter_lang.proofs.LexedPlaces.{by_place}
use Rattle.filter_lang.proofs.LexLaws.{text_not_both, text_one_place, text_one_filter}

abbrev Lexes : Bool → List ℕ → Lexed → Type 0
Lexes b text l = AreLexemes b text l.row l.rest

one_token : (b : Bool) (c : ℕ) (bytes : List ℕ) (more : PlainToken → ℕ → Lexed) (o : Option Cut) → is_blank c ≡ false
    → ((t : PlainToken) (n : ℕ) → Lexes (b || is_colon t) (drop n bytes) (more t n)) → token_in b (c ∷ bytes) ≡ o → Lexes b (c ∷ bytes) (behind_token (c ∷ bytes) more o)
one_token b c bytes more None none so is = fault none is
one_token b c bytes more (Some cut) none so is = token none is (so cut.0 cut.1)

lexes : (turns : ℕ) (b : Bool) (text : List ℕ) → length text ≤ turns → Lexes b text (lex turns b text)
unfolding lex
lexes turns b [] enough = ended
lexes zero b (c ∷ bytes) enough = absurd (omega arith)
lexes (suc turns) b (c ∷ bytes) enough =
    let more = λ (t : PlainToken) (n : ℕ). lex turns (b || is_colon t) (drop n bytes) in
    elim (cases_Bool (is_blank c)) [
      | inl is ↦ rw is (blank is (lexes turns b bytes (omega arith)))
      | inr none ↦ rw none (one_token b c bytes more (token_in b (c ∷ bytes)) none (λ t n. lexes turns (b || is_colon t) (drop n bytes) (omega (arith, length-drop n bytes))) refl)
    ]

-- what an answer says of a text
abbrev Says : List ℕ → Result FilterData ℕ → Type 0
Says text (Ok f) = IsFilterText text f
Says text (Err place) = (rs : List ℕ) × RefusedText text rs × (place ≡ length text - length rs)

tokens_drop : (k : ℕ) (row : List Lexeme) → tokens_in (drop k row) ≡ drop k (tokens_in row)
tokens_drop zero row = refl
tokens_drop (suc k) [] = refl
tokens_drop (suc k) (l ∷ row) = tokens_drop k row

drop_front : (us ts : List PlainToken) → drop (length us) (us ++ ts) ≡ ts
drop_front [] ts = refl
drop_front (u ∷ us) ts = drop_front us ts

tokens_long : (row : List Lexeme) → length (tokens_in row) ≡ length row
tokens_long [] = refl
tokens_long (l ∷ row) = ap suc (tokens_long row)

append_long : (us ts : List PlainToken) → length (us ++ ts) ≡ length us + length ts
append_long [] ts = omega arith
append_long (u ∷ us) ts = let more = append_long us ts in omega arith

refused_place : (text : List ℕ) (row : List Lexeme) (rest : List ℕ) (ts : List PlainToken) → AreLexemes false text row rest → RefusedBefore (tokens_in row) ts
    → RefusedText text (from_first (drop (length row - length ts) row) rest)
refused_place text row rest ts d r =
    let k = length row - length ts in
    let before : k ≡ length r.before = omega (arith, sym (tokens_long row) ∙ ap length r.is ∙ append_long r.before ts) in
    let same : tokens_in (drop k row) ≡ ts = tokens_drop k row ∙ ap (λ (n : ℕ). drop n (tokens_in row)) before ∙ ap (drop (length r.before)) r.is ∙ drop_front r.before ts in
    by_place text rest row (take k row) (drop k row) d (sym (take-append-drop k row)) (subst (λ (zs : List PlainToken). RefusedBefore (tokens_in row) zs) (sym same) r)

by_out : (text : List ℕ) (row : List Lexeme) (rest : List ℕ) (o : Parsed FilterData) → AreLexemes false text row rest → filter_in (tokens_in row) ≡ o → Says text (read_tokens text row rest o)
by_out text row [] (found f ts) d e = record { row = row; lexes = d; is_filter = (filter_derived (tokens_in row) f ts e).0 }
by_out text row (c ∷ rest) (found f ts) d e = (c ∷ rest, no_token d (λ none. absurd cc) (filter_derived (tokens_in row) f ts e).0, refl)
by_out text row [] (refused ts) d e = (_, refused_place text row [] ts d (filter_refused (tokens_in row) ts e), refl)
by_out text row (c ∷ rest) (refused ts) d e = (_, refused_place text row (c ∷ rest) ts d (filter_refused (tokens_in row) ts e), refl)

says : (text : List ℕ) → Says text (reading text)
unfolding reading
says text =
    let l = lex (length text) false text in by_out text l.row l.rest (filter_in (tokens_in l.row)) (lexes (length text) false text (omega arith)) refl

-- an answer that says what the text is
filter_by : (text : List ℕ) (f : FilterData) (o : Result FilterData ℕ) → Says text o → IsFilterText text f → o ≡ Ok f
filter_by text f (Ok g) is d = ap Ok (text_one_filter text g f is d)
filter_by text f (Err place) is d = absurd (text_not_both text is.0 f d is.1)

refusal_by : (text rs : List ℕ) (o : Result FilterData ℕ) → Says text o → RefusedText text rs → o ≡ Err (length text - length rs)
refusal_by text rs (Ok f) is r = absurd (text_not_both text rs f is r)
refusal_by text rs (Err place) is r = ap Err (is.2 ∙ ap (λ (zs : List ℕ). length text - length zs) (text_one_place text is.0 rs is.1 r))

pub filter_read : (text : List ℕ) (f : FilterData) → IsFilterText text f → reading text ≡ Ok f
filter_read text f d = filter_by text f (reading text) (says text) d

pub read_filter : (text : List ℕ) (f : FilterData) → reading text ≡ Ok f → IsFilterText text f
read_filter text f e = subst (λ (o : Result FilterData ℕ). Says text o) e (says text)

pub refusal_read : (text rs : List ℕ) → RefusedText text rs → reading text ≡ Err (length text - length rs)
refusal_read text rs r = refusal_by text rs (reading text) (says text) r
