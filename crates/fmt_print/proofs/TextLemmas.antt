-- Texts that a NUL or a precision cuts.
use Rattle.std.proofs.Common.{◌≡◌, ℕ, suc, ◌+◌, Bool, true, false, List, [], ◌∷◌, take, refl, sym, ap, ◌∙◌, arith, inl, inr}
use Rattle.std.specs.List.{prefix_len}
use Rattle.std.proofs.lemmas.Bool.{cases_Bool}
use Rattle.std.proofs.lemmas.List.{take-take}
use Rattle.trace_base.specs.Kept.{is_letter}
use Rattle.trace_base.specs.Kept.{until_nul}
use Rattle.fmt_directives.specs.declared.directive.PointerForm.{PointerForm}
use Rattle.fmt_directives.specs.declared.directive.PointerForm.TheVariants.{Plain, Name, NameOffset, Ip4, Mac}
use Rattle.fmt_print.specs.Addresses.{network_text, bytes_address}

one_more : (n : ℕ) → 1 + n ≡ suc n
one_more n = omega arith

more : (n x : ℕ) (xs : List ℕ) → take (1 + n) (x ∷ xs) ≡ x ∷ take n xs
more n x xs = ap (λ m. take m (x ∷ xs)) (one_more n)

letters : (xs : List ℕ) → prefix_len is_letter (take (prefix_len is_letter xs) xs) ≡ prefix_len is_letter xs
letters [] = refl
letters (x ∷ xs) = elim (cases_Bool (is_letter x)) as (λ _. prefix_len is_letter (take (prefix_len is_letter (x ∷ xs)) (x ∷ xs)) ≡ prefix_len is_letter (x ∷ xs)) [
  | inl is ↦ rw is (ap (prefix_len is_letter) (more (prefix_len is_letter xs) x xs) ∙ rw is (ap (λ n. 1 + n) (letters xs)))
  | inr none ↦ rw none refl
]

-- a text that was cut at its first NUL has none
pub nul_once : (xs : List ℕ) → until_nul xs ≡ until_nul (until_nul xs)
nul_once xs = sym (ap (λ n. take n (until_nul xs)) (letters xs) ∙ take-take (prefix_len is_letter xs) (prefix_len is_letter xs) xs (omega arith))

-- six bytes are enough
network_six : (ip4 : Bool) (text : List ℕ) → network_text ip4 (take 6 text) ≡ network_text ip4 text
network_six ip4 [] = refl
network_six ip4 (a ∷ []) = refl
network_six ip4 (a ∷ b ∷ []) = refl
network_six ip4 (a ∷ b ∷ c ∷ []) = refl
network_six ip4 (a ∷ b ∷ c ∷ d ∷ []) = refl
network_six ip4 (a ∷ b ∷ c ∷ d ∷ e ∷ []) = refl
network_six true (a ∷ b ∷ c ∷ d ∷ e ∷ f ∷ text) = refl
network_six false (a ∷ b ∷ c ∷ d ∷ e ∷ f ∷ text) = refl

pub first_six : (pointer : PointerForm) (text : List ℕ) → bytes_address pointer (take 6 text) ≡ bytes_address pointer text
first_six Plain text = refl
first_six Name text = refl
first_six NameOffset text = refl
first_six Ip4 text = network_six true text
first_six Mac text = network_six false text
