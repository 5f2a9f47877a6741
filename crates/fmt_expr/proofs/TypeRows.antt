-- Names and stars, one after another.
use Rattle.std.proofs.Common.{◌≡◌, ℕ, zero, suc, ◌+◌, ◌-◌, ◌<◌, ◌≤◌, append_assoc, append-nil, Bool, true, false, List, [], ◌∷◌, ◌++◌, drop, Option, Some, None, refl, sym, ap, ◌∙◌, codes, arith, option_and_then, inl, inr}
use Rattle.std.specs.Prelude.{slice_get}
use Rattle.std.specs.List.{prefix_len}
use Rattle.fmt_lexer.specs.Tokens.{bytes_of}
use Rattle.fmt_expr.specs.Source.{Source, as_mark, as_name, is_text, is_mark, mark_at, name_at}
use Rattle.fmt_expr.specs.Types.{is_type_name, is_type_word, is_star, names_len, stars_len, spaced, spaced_names, words_at, type_at, closed_type}
use Rattle.fmt_literal.specs.Types.{is_qualifier}
use Rattle.fmt_expr.proofs.Chances.{option_cases}

run_yes : {X : Type 0} (p : X → Bool) (xs : List X) (i : ℕ) (x : X) → slice_get xs i ≡ Some x → p x ≡ true → prefix_len p (drop i xs) ≡ 1 + prefix_len p (drop (suc i) xs)
run_yes p [] i x e h = absurd cc
run_yes p (y ∷ ys) zero x e h = let same : p y ≡ true = cc in rw same refl
run_yes p (y ∷ ys) (suc i) x e h = run_yes p ys i x e h

run_no : {X : Type 0} (p : X → Bool) (xs : List X) (i : ℕ) (x : X) → slice_get xs i ≡ Some x → p x ≡ false → prefix_len p (drop i xs) ≡ 0
run_no p [] i x e h = absurd cc
run_no p (y ∷ ys) zero x e h = let same : p y ≡ false = cc in rw same refl
run_no p (y ∷ ys) (suc i) x e h = run_no p ys i x e h

run_end : {X : Type 0} (p : X → Bool) (xs : List X) (i : ℕ) → slice_get xs i ≡ None → prefix_len p (drop i xs) ≡ 0
run_end p [] zero e = refl
run_end p [] (suc i) e = refl
run_end p (y ∷ ys) zero e = absurd cc
run_end p (y ∷ ys) (suc i) e = run_end p ys i e

next : (i : ℕ) → suc i ≡ i + 1
next i = omega arith

pub names_step : (s : Source) (i : ℕ) → is_type_name (name_at s i) ≡ true → names_len s i ≡ 1 + names_len s (i + 1)
unfolding name_at names_len
names_step s i h = elim (option_cases (slice_get s.tokens i)) [
  | inl none ↦ absurd (let e = ap (λ o. is_type_name (option_and_then (λ t. as_name t.kind (bytes_of s.text t)) o)) none in cc)
  | inr there ↦
      let e = ap (λ o. is_type_name (option_and_then (λ t. as_name t.kind (bytes_of s.text t)) o)) there.1 in
      run_yes (is_type_word s.text) s.tokens i there.0 there.1 (sym e ∙ h) ∙ ap (λ k. 1 + prefix_len (is_type_word s.text) (drop k s.tokens)) (next i)
]

pub names_stop : (s : Source) (i : ℕ) → is_type_name (name_at s i) ≡ false → names_len s i ≡ 0
unfolding name_at names_len
names_stop s i h = elim (option_cases (slice_get s.tokens i)) [
  | inl none ↦ run_end (is_type_word s.text) s.tokens i none
  | inr there ↦
      let e = ap (λ o. is_type_name (option_and_then (λ t. as_name t.kind (bytes_of s.text t)) o)) there.1 in
      run_no (is_type_word s.text) s.tokens i there.0 there.1 (sym e ∙ h)
]

pub stars_step : (s : Source) (i : ℕ) → is_mark s i (codes "*") ≡ true → stars_len s i ≡ 1 + stars_len s (i + 1)
unfolding is_mark mark_at stars_len
stars_step s i h = elim (option_cases (slice_get s.tokens i)) [
  | inl none ↦ absurd (let e = ap (λ o. is_text (option_and_then (λ t. as_mark t.kind (bytes_of s.text t)) o) (codes "*")) none in cc)
  | inr there ↦
      let e = ap (λ o. is_text (option_and_then (λ t. as_mark t.kind (bytes_of s.text t)) o) (codes "*")) there.1 in
      run_yes (is_star s.text) s.tokens i there.0 there.1 (sym e ∙ h) ∙ ap (λ k. 1 + prefix_len (is_star s.text) (drop k s.tokens)) (next i)
]

pub stars_stop : (s : Source) (i : ℕ) → is_mark s i (codes "*") ≡ false → stars_len s i ≡ 0
unfolding is_mark mark_at stars_len
stars_stop s i h = elim (option_cases (slice_get s.tokens i)) [
  | inl none ↦ run_end (is_star s.text) s.tokens i none
  | inr there ↦
      let e = ap (λ o. is_text (option_and_then (λ t. as_mark t.kind (bytes_of s.text t)) o) (codes "*")) there.1 in
      run_no (is_star s.text) s.tokens i there.0 there.1 (sym e ∙ h)
]

-- no type begins where no name does
pub no_type : (s : Source) (i : ℕ) → is_type_name (name_at s i) ≡ false → closed_type s i ≡ None
unfolding closed_type type_at
no_type s i h = rw (names_stop s i h) refl

-- names with their blanks: one turn of the loop, and its end
words_now : (s : Source) (i n : ℕ) → 0 < n → spaced_names s n i ≡ spaced (name_at s i) ++ spaced_names s (n - 1) (i + 1)
unfolding spaced_names
words_now s i zero lt = absurd (omega arith)
words_now s i (suc n) lt = let same : n ≡ suc n - 1 = omega arith in ap (λ m. spaced (name_at s i) ++ spaced_names s m (i + 1)) same

pub words_turn : (s : Source) (i end : ℕ) (front more all : List ℕ) → i < end → more ≡ front ++ spaced (name_at s i) → front ++ spaced_names s (end - i) i ≡ all → more ++ spaced_names s (end - (i + 1)) (i + 1) ≡ all
words_turn s i end front more all lt m h =
    let rest : List ℕ = spaced_names s (end - (i + 1)) (i + 1) in
    let one : end - i - 1 ≡ end - (i + 1) = omega arith in
    ap (λ (f : List ℕ). f ++ rest) m ∙ append_assoc front (spaced (name_at s i)) rest
    ∙ ap (λ (r : List ℕ). front ++ r) (sym (words_now s i (end - i) (omega arith) ∙ ap (λ n. spaced (name_at s i) ++ spaced_names s n (i + 1)) one)) ∙ h

none_left : (s : Source) (i n : ℕ) → n ≡ 0 → spaced_names s n i ≡ []
unfolding spaced_names
none_left s i zero e = refl
none_left s i (suc n) e = absurd (omega arith)

pub words_done : (s : Source) (i end : ℕ) (front all : List ℕ) → end ≤ i → front ++ spaced_names s (end - i) i ≡ all → front ≡ all
words_done s i end front all le h = sym (append-nil front) ∙ ap (λ (r : List ℕ). front ++ r) (sym (none_left s i (end - i) (omega arith))) ∙ h

-- a type of one name
pub one_word : (s : Source) (at names : ℕ) (name : List ℕ) → names ≡ 1 → Some name ≡ name_at s at → is_qualifier name ≡ false → name ≡ words_at s at names
one_word s at names name one is plain =
    let rest : spaced_names s (names - 1) (at + 1) ≡ [] = none_left s (at + 1) (names - 1) (omega (arith, one)) in
    let all : spaced_names s names at ≡ (32 ∷ name) ++ [] =
    words_now s at names (omega (arith, one))
    ∙ ap (λ (r : List ℕ). spaced (name_at s at) ++ r) rest
    ∙ ap (λ (o : Option (List ℕ)). spaced o ++ []) (sym is)
    ∙ rw plain refl in
    sym (ap (λ (l : List ℕ). drop 1 l) all ∙ append-nil name)
