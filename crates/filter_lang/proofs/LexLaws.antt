-- A text is a filter's or is refused at a place, and not both.
use Rattle.std.proofs.Common.{◌≡◌, ℕ, zero, suc, ◌+◌, ◌≤◌, Bool, true, false, ◌||◌, List, [], ◌∷◌, ◌++◌, length, drop, Option, Some, None, refl, ap, ap₂, sym, ◌∙◌, subst, arith, ◌⊎◌, inl, inr}
use Rattle.std.proofs.lemmas.Bool.{cases_Bool}
use Rattle.std.proofs.lemmas.List.{length-drop}
use Rattle.filter_lang.specs.PlainToken.{PlainToken}
use Rattle.filter_lang.specs.Filter.{FilterData}
use Rattle.filter_lang.specs.Grammar.{IsFilter, RefusedBefore}
use Rattle.byte_classes.specs.Bytes.{is_blank}
use Rattle.filter_lang.specs.Lexing.{token_in, is_colon, Cut}
use Rattle.filter_lang.specs.Texts.{Lexeme, lexeme, AreLexemes, ended, blank, fault, token, tokens_in, IsFilterText, RefusedText, at_token, too_short, no_token}
use Rattle.filter_lang.proofs.Viable.{found_is}
use Rattle.filter_lang.proofs.Filters.{filter_there}
use Rattle.filter_lang.proofs.OneRefusal.{either, not_both, one_place}

option_cases : {A : Type 0} (o : Option A) → (o ≡ None) ⊎ ((x : A) × (o ≡ Some x))
option_cases None = inl refl
option_cases (Some x) = inr (x, refl)

-- every text has tokens up to some place
pub record Lexed (b : Bool) (text : List ℕ) : Type 0 where
  pub row : List Lexeme
  pub rest : List ℕ
  pub lexes : AreLexemes b text row rest

one : (b : Bool) (c : ℕ) (bytes : List ℕ) → is_blank c ≡ false → ((t : PlainToken) (n : ℕ) → Lexed (b || is_colon t) (drop n bytes)) → Lexed b (c ∷ bytes)
one b c bytes none more = elim (option_cases (token_in b (c ∷ bytes))) [
  | inl never ↦ record { row = []; rest = c ∷ bytes; lexes = fault none never }
  | inr some ↦
      let l = more some.0.0 some.0.1 in
      record { row = lexeme some.0.0 (c ∷ bytes) ∷ l.row; rest = l.rest; lexes = token none some.1 l.lexes }
]

pub lexed : (m : ℕ) (b : Bool) (text : List ℕ) → length text ≤ m → Lexed b text
lexed m b [] enough = record { row = []; rest = []; lexes = ended }
lexed zero b (c ∷ bytes) enough = absurd (omega arith)
lexed (suc m) b (c ∷ bytes) enough = elim (cases_Bool (is_blank c)) [
  | inl is ↦ let l = lexed m b bytes (omega arith) in record { row = l.row; rest = l.rest; lexes = blank is l.lexes }
  | inr none ↦ one b c bytes none (λ t n. lexed m (b || is_colon t) (drop n bytes) (omega (arith, length-drop n bytes)))
]

-- a row of tokens, cut where its plain tokens are cut
record Halves (row : List Lexeme) (rs : List PlainToken) : Type 0 where
  pub us : List Lexeme
  pub vs : List Lexeme
  pub is : row ≡ us ++ vs
  pub same : tokens_in vs ≡ rs

tail_is : (t u : PlainToken) (ts us : List PlainToken) → t ∷ ts ≡ u ∷ us → ts ≡ us
tail_is t u ts us e = cc

halves : (row : List Lexeme) (as' rs : List PlainToken) → tokens_in row ≡ as' ++ rs → Halves row rs
halves row [] rs e = record { us = []; vs = row; is = refl; same = e }
halves [] (a ∷ as') rs e = absurd cc
halves (l ∷ row) (a ∷ as') rs e =
    let h = halves row as' rs (tail_is l.plain a (tokens_in row) (as' ++ rs) e) in
    record { us = l ∷ h.us; vs = h.vs; is = ap (λ zs. l ∷ zs) h.is; same = h.same }

abbrev pub TextFilter : List ℕ → Type 0
TextFilter text = (f : FilterData) × IsFilterText text f

abbrev pub TextRefusal : List ℕ → Type 0
TextRefusal text = (rs : List ℕ) × RefusedText text rs

by_halves : (text rest : List ℕ) (row us vs : List Lexeme) (rs : List PlainToken) → AreLexemes false text row rest → RefusedBefore (tokens_in row) rs → row ≡ us ++ vs → tokens_in vs ≡ rs → TextRefusal text
by_halves text rest row us [] rs d r is same = (rest, too_short d (subst (λ zs. RefusedBefore (tokens_in row) zs) (sym same) r))
by_halves text rest row us (l ∷ vs) rs d r is same = (
  l.at,
  at_token us vs l (subst (λ (zs : List Lexeme). AreLexemes false text zs rest) is d)
      (subst (λ (zs : List Lexeme). RefusedBefore (tokens_in zs) (tokens_in (l ∷ vs))) is (subst (λ zs. RefusedBefore (tokens_in row) zs) (sym same) r)),
)

by_rest : (text rest : List ℕ) (row : List Lexeme) (f : FilterData) → AreLexemes false text row rest → IsFilter (tokens_in row) f → TextFilter text ⊎ TextRefusal text
by_rest text [] row f d is = inl (f, record { row = row; lexes = d; is_filter = is })
by_rest text (c ∷ rest) row f d is = inr (c ∷ rest, no_token d (λ e. absurd cc) is)

pub text_either : (text : List ℕ) → TextFilter text ⊎ TextRefusal text
text_either text =
    let l = lexed (length text) false text (omega arith) in
    elim (either (tokens_in l.row)) [
      | inl some ↦ by_rest text l.rest l.row some.0 l.lexes some.1
      | inr none ↦ let r = none.1 in let h = halves l.row r.before none.0 r.is in inr (by_halves text l.rest l.row h.us h.vs none.0 l.lexes r h.is h.same)
    ]

-- two readings of one text are one
head_is : (c d : ℕ) (cs ds : List ℕ) → c ∷ cs ≡ d ∷ ds → c ≡ d
head_is c d cs ds e = cc

behind_is : (c d : ℕ) (cs ds : List ℕ) → c ∷ cs ≡ d ∷ ds → cs ≡ ds
behind_is c d cs ds e = cc

some_is : {A : Type 0} (x y : A) → Some x ≡ Some y → x ≡ y
some_is x y e = cc

abbrev cut : PlainToken → ℕ → Cut
cut t n = (t, n)

looked_same : (b b' : Bool) (c c' : ℕ) (cs cs' : List ℕ) → b ≡ b' → c ∷ cs ≡ c' ∷ cs' → token_in b (c ∷ cs) ≡ token_in b' (c' ∷ cs')
looked_same b b' c c' cs cs' eb e = ap₂ token_in eb e

abbrev Same : List Lexeme → List Lexeme → List ℕ → List ℕ → Type 0
Same row row' rest rest' = (row ≡ row') × (rest ≡ rest')

cuts_same : (b b' : Bool) (c c' : ℕ) (cs cs' : List ℕ) (t t' : PlainToken) (n n' : ℕ) → b ≡ b' → c ∷ cs ≡ c' ∷ cs' → token_in b (c ∷ cs) ≡ Some (cut t n) → token_in b' (c' ∷ cs') ≡ Some (cut t' n') → cut t n ≡ cut t' n'
cuts_same b b' c c' cs cs' t t' n n' eb e is is' =
    some_is (cut t n) (cut t' n') (sym is ∙ looked_same b b' c c' cs cs' eb e ∙ is')

cut_or_none : (b b' : Bool) (c c' : ℕ) (cs cs' : List ℕ) (t : PlainToken) (n : ℕ) → b ≡ b' → c ∷ cs ≡ c' ∷ cs' → token_in b (c ∷ cs) ≡ None → token_in b' (c' ∷ cs') ≡ Some (cut t n) → ⊥
cut_or_none b b' c c' cs cs' t n eb e is is' =
    let same = looked_same b b' c c' cs cs' eb e in cc

blank_or_not : (c c' : ℕ) (cs cs' : List ℕ) → c ∷ cs ≡ c' ∷ cs' → is_blank c ≡ true → is_blank c' ≡ false → ⊥
blank_or_not c c' cs cs' e is never = let same = ap is_blank (head_is c c' cs cs' e) in cc

more_same : (t t' : PlainToken) (n n' : ℕ) (b b' : Bool) (cs cs' : List ℕ) → b ≡ b' → cs ≡ cs' → cut t n ≡ cut t' n' → (t ≡ t') × ((b || is_colon t) ≡ (b' || is_colon t')) × (drop n cs ≡ drop n' cs')
more_same t t' n n' b b' cs cs' eb es e =
    let et : t ≡ t' = ap (λ (x : Cut). x.0) e in
    let en : n ≡ n' = ap (λ (x : Cut). x.1) e in
    (et, ap₂ (λ x y. x || is_colon y) eb et, ap₂ (λ k (zs : List ℕ). drop k zs) en es)

unique : {b b' : Bool} {text text' rest rest' : List ℕ} {row row' : List Lexeme} → AreLexemes b text row rest → AreLexemes b' text' row' rest' → b ≡ b' → text ≡ text' → Same row row' rest rest'
unique ended ended eb e = (refl, refl)
unique ended (blank is d) eb e = absurd cc
unique ended (fault is d) eb e = absurd cc
unique ended (token is i d) eb e = absurd cc
unique (blank is d) ended eb e = absurd cc
unique (blank {c = c} {bytes = cs} is d) (blank {c = c'} {bytes = cs'} is' d') eb e = unique d d' eb (behind_is c c' cs cs' e)
unique (blank {c = c} {bytes = cs} is d) (fault {c = c'} {bytes = cs'} is' i) eb e = absurd (blank_or_not c c' cs cs' e is is')
unique (blank {c = c} {bytes = cs} is d) (token {c = c'} {bytes = cs'} is' i d') eb e = absurd (blank_or_not c c' cs cs' e is is')
unique (fault is i) ended eb e = absurd cc
unique (fault {c = c} {bytes = cs} is i) (blank {c = c'} {bytes = cs'} is' d') eb e = absurd (blank_or_not c' c cs' cs (sym e) is' is)
unique (fault is i) (fault is' i') eb e = (refl, e)
unique {b} {b'} (fault {c = c} {bytes = cs} is i) (token {c = c'} {n = n} {bytes = cs'} {t = t} is' i' d') eb e = absurd (cut_or_none b b' c c' cs cs' t n eb e i i')
unique (token is i d) ended eb e = absurd cc
unique (token {c = c} {bytes = cs} is i d) (blank {c = c'} {bytes = cs'} is' d') eb e = absurd (blank_or_not c' c cs' cs (sym e) is' is)
unique {b} {b'} (token {c = c} {n = n} {bytes = cs} {t = t} is i d) (fault {c = c'} {bytes = cs'} is' i') eb e = absurd (cut_or_none b' b c' c cs' cs t n (sym eb) (sym e) i' i)
unique {b} {b'} (token {c = c} {n = n} {bytes = cs} {t = t} is i d) (token {c = c'} {n = n'} {bytes = cs'} {t = t'} is' i' d') eb e =
    let m = more_same t t' n n' b b' cs cs' eb (behind_is c c' cs cs' e) (cuts_same b b' c c' cs cs' t t' n n' eb e i i') in
    let s = unique d d' m.1 m.2 in
    (ap₂ (λ (x : Lexeme) (zs : List Lexeme). x ∷ zs) (ap₂ (λ (x : PlainToken) (zs : List ℕ). lexeme x zs) m.0 e) s.0, s.1)

pub text_not_both : (text rs : List ℕ) (f : FilterData) → IsFilterText text f → RefusedText text rs → ⊥
text_not_both text rs f is (at_token us vs l d r) =
    let s = unique is.lexes d refl refl in
    not_both (tokens_in (us ++ l ∷ vs)) (tokens_in (l ∷ vs)) f (subst (λ (zs : List Lexeme). IsFilter (tokens_in zs) f) s.0 is.is_filter) r
text_not_both text rs f is (too_short {row = row} d r) = let s = unique is.lexes d refl refl in not_both (tokens_in row) [] f (subst (λ (zs : List Lexeme). IsFilter (tokens_in zs) f) s.0 is.is_filter) r
text_not_both text rs f is (no_token d some i) = let s = unique is.lexes d refl refl in some (sym s.1)

lexemes_long : (us vs : List Lexeme) → length (us ++ vs) ≡ length us + length vs
lexemes_long [] vs = omega arith
lexemes_long (u ∷ us) vs = let more = lexemes_long us vs in omega arith

rows_tail : (u v : Lexeme) (us vs : List Lexeme) → u ∷ us ≡ v ∷ vs → us ≡ vs
rows_tail u v us vs e = cc

same_suffix : (us vs us' vs' : List Lexeme) → us ++ vs ≡ us' ++ vs' → length vs ≡ length vs' → vs ≡ vs'
same_suffix [] vs [] vs' e same = e
same_suffix [] vs (u ∷ us') vs' e same = absurd (omega (arith, ap length e, lexemes_long us' vs'))
same_suffix (u ∷ us) vs [] vs' e same = absurd (omega (arith, ap length e, lexemes_long us vs))
same_suffix (u ∷ us) vs (u' ∷ us') vs' e same = same_suffix us vs us' vs' (rows_tail u u' (us ++ vs) (us' ++ vs') e) same

tokens_long : (row : List Lexeme) → length (tokens_in row) ≡ length row
tokens_long [] = refl
tokens_long (l ∷ row) = ap suc (tokens_long row)

first_at : (l k : Lexeme) (ls ks : List Lexeme) → l ∷ ls ≡ k ∷ ks → l.at ≡ k.at
first_at l k ls ks e = let same : l ≡ k = cc in ap (λ (x : Lexeme). x.at) same

moved : {row row' : List Lexeme} {rs : List PlainToken} → row ≡ row' → RefusedBefore (tokens_in row) rs → RefusedBefore (tokens_in row') rs
moved {rs = rs} e r = subst (λ (zs : List Lexeme). RefusedBefore (tokens_in zs) rs) e r

pub text_one_place : (text rs vs : List ℕ) → RefusedText text rs → RefusedText text vs → rs ≡ vs
text_one_place text rs vs (at_token us ws l d r) (at_token us' ws' l' d' r') =
    let s = unique d d' refl refl in
    let same = one_place _ _ _ (moved s.0 r) r' in
    let long : length (l ∷ ws) ≡ length (l' ∷ ws') = sym (tokens_long (l ∷ ws)) ∙ ap length same ∙ tokens_long (l' ∷ ws') in
    first_at l l' ws ws' (same_suffix us (l ∷ ws) us' (l' ∷ ws') s.0 long)
text_one_place text rs vs (at_token us ws l d r) (too_short d' r') = let s = unique d d' refl refl in absurd (let same = one_place _ _ _ (moved s.0 r) r' in cc)
text_one_place text rs vs (at_token us ws l d r) (no_token d' some i) = let s = unique d d' refl refl in absurd (not_both _ _ _ i (moved s.0 r))
text_one_place text rs vs (too_short d r) (at_token us' ws' l' d' r') = let s = unique d d' refl refl in absurd (let same = one_place _ _ _ (moved s.0 r) r' in cc)
text_one_place text rs vs (too_short d r) (too_short d' r') = (unique d d' refl refl).1
text_one_place text rs vs (too_short d r) (no_token d' some i) = let s = unique d d' refl refl in absurd (not_both _ _ _ i (moved s.0 r))
text_one_place text rs vs (no_token d some i) (at_token us' ws' l' d' r') = let s = unique d' d refl refl in absurd (not_both _ _ _ i (moved s.0 r'))
text_one_place text rs vs (no_token d some i) (too_short d' r') = let s = unique d' d refl refl in absurd (not_both _ _ _ i (moved s.0 r'))
text_one_place text rs vs (no_token d some i) (no_token d' some' i') = (unique d d' refl refl).1

filters_same : (ts : List PlainToken) (f g : FilterData) → IsFilter ts f → IsFilter ts g → f ≡ g
filters_same ts f g d e = (found_is f g [] [] (sym (filter_there d) ∙ filter_there e)).0

pub text_one_filter : (text : List ℕ) (f g : FilterData) → IsFilterText text f → IsFilterText text g → f ≡ g
text_one_filter text f g d e =
    let s = unique d.lexes e.lexes refl refl in
    filters_same (tokens_in e.row) f g (subst (λ (zs : List Lexeme). IsFilter (tokens_in zs) f) s.0 d.is_filter) e.is_filter
