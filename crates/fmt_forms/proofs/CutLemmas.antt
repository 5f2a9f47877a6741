-- What a precision shows of an address.
use Rattle.std.proofs.Common.{◌≡◌, ℕ, zero, suc, ◌-◌, List, [], ◌∷◌, ◌++◌, take, Option, Some, None, refl, sym, ap, ◌∙◌, arith}
use Rattle.std.specs.Prelude.{codes}
use Rattle.std.specs.Option.{option_map}
use Rattle.std.proofs.lemmas.List.{take_all, append-nil}
use Rattle.fmt_forms.specs.Texts.{cut_to}

two_less : (p : ℕ) → p ≡ suc (suc p) - 2
two_less p = omega arith

cut_one : (p : ℕ) (ds : List ℕ) → take p (48 ∷ 120 ∷ ds) ≡ take p (48 ∷ 120 ∷ []) ++ take (p - 2) ds
cut_one zero ds = refl
cut_one (suc zero) ds = refl
cut_one (suc (suc p)) ds =
    ap (λ n. 48 ∷ 120 ∷ take n ds) (two_less p) ∙ ap (λ l. 48 ∷ 120 ∷ (l ++ take (suc (suc p) - 2) ds)) (sym (take_all p [] (omega arith)))

pub cut_two : (precision : Option ℕ) (ds : List ℕ) → cut_to precision (codes "0x") ++ (cut_to (option_map (λ p. p - 2) precision) ds ++ []) ≡ cut_to precision (codes "0x" ++ ds)
cut_two None ds = ap (λ l. 48 ∷ 120 ∷ l) (append-nil ds)
cut_two (Some p) ds = ap (λ l. take p (48 ∷ 120 ∷ []) ++ l) (append-nil (take (p - 2) ds)) ∙ sym (cut_one p ds)
