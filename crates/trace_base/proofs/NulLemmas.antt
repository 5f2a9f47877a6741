-- The first NUL of a text, looked for byte by byte.
use Rattle.std.proofs.Common.{◌≡◌, ℕ, ◌+◌, ◌<◌, suc, true, false, List, [], ◌∷◌, length, take, drop, get_or, refl, sym, ap, ◌∙◌, arith, inl, inr}
use Rattle.std.specs.List.{prefix_len}
use Rattle.std.proofs.lemmas.Bool.{cases_Bool}
use Rattle.std.proofs.lemmas.List.{drop_more, take-take}
use Rattle.trace_base.specs.Kept.{is_letter, until_nul}

-- so many letters, and then as many as stand at the front of the rest
abbrev pub len_from : List ℕ → ℕ → ℕ
len_from text i = i + prefix_len is_letter (drop i text)

no_letter : (b : ℕ) (rest : List ℕ) → is_letter b ≡ false → prefix_len is_letter (b ∷ rest) ≡ 0
no_letter b rest h = rw h (omega arith)

one_letter : (b : ℕ) (rest : List ℕ) → is_letter b ≡ true → prefix_len is_letter (b ∷ rest) ≡ prefix_len is_letter rest + 1
one_letter b rest h = rw h (omega arith)

pub letters_end : (text : List ℕ) (i d : ℕ) → i < length text → is_letter (get_or text i d) ≡ false → i ≡ len_from text i
letters_end text i d lt e =
    let none : prefix_len is_letter (drop i text) ≡ 0 = ap (prefix_len is_letter) (drop_more text i d lt) ∙ no_letter (get_or text i d) (drop (i + 1) text) e in
    omega (arith, none)

pub letters_more : (text : List ℕ) (i d : ℕ) → i < length text → is_letter (get_or text i d) ≡ true → len_from text i ≡ len_from text (i + 1)
letters_more text i d lt e =
    let more : prefix_len is_letter (drop i text) ≡ prefix_len is_letter (drop (i + 1) text) + 1 =
    ap (prefix_len is_letter) (drop_more text i d lt) ∙ one_letter (get_or text i d) (drop (i + 1) text) e in
    omega (arith, more)

one_more : (n : ℕ) → 1 + n ≡ suc n
one_more n = omega arith

more : (n x : ℕ) (xs : List ℕ) → take (1 + n) (x ∷ xs) ≡ x ∷ take n xs
more n x xs = ap (λ m. take m (x ∷ xs)) (one_more n)

letters : (xs : List ℕ) → prefix_len is_letter (until_nul xs) ≡ prefix_len is_letter xs
letters [] = refl
letters (x ∷ xs) = elim (cases_Bool (is_letter x)) as (λ _. prefix_len is_letter (until_nul (x ∷ xs)) ≡ prefix_len is_letter (x ∷ xs)) [
  | inl is ↦ rw is (ap (prefix_len is_letter) (more (prefix_len is_letter xs) x xs) ∙ rw is (ap (λ n. 1 + n) (letters xs)))
  | inr none ↦ rw none refl
]

-- a text that was cut at its first NUL has none
pub nul_once : (xs : List ℕ) → until_nul xs ≡ until_nul (until_nul xs)
nul_once xs = sym (ap (λ n. take n (until_nul xs)) (letters xs) ∙ take-take (prefix_len is_letter xs) (prefix_len is_letter xs) xs (omega arith))
