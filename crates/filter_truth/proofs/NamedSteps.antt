-- The formats of a table, one by one.
use Rattle.std.proofs.Common.{◌≡◌, ℕ, ◌+◌, ◌≤◌, List, [], ◌∷◌, ◌++◌, length, map, take, slice_get, refl, sym, ap, ◌∙◌}
use Rattle.std.proofs.lemmas.List.{take_all}
use Rattle.std.specs.List.{cons_option}
use Rattle.trace_base.proofs.TakeLemmas.{take_next}
use Rattle.format_parse.specs.declared.format.EventFormat.{EventFormat}

pub named_more : (formats : List EventFormat) (i : ℕ) (front now : List EventFormat) → front ≡ take i formats → now ≡ front ++ cons_option (slice_get formats i) [] → now ≡ take (i + 1) formats
named_more formats i front now before is = is ∙ ap (λ (l : List EventFormat). l ++ cons_option (slice_get formats i) []) before ∙ sym (take_next formats i)

-- a list that grew item by item, over what was read of each
pub mapped_all : {A B C : Type 0} (f : A → B) (g : B → C) (xs : List A) (i : ℕ) (ys : List C) → length xs ≤ i → ys ≡ map (λ x. g (f x)) (take i xs) → ys ≡ map g (map f xs)
mapped_all {A = A} f g xs i ys past is = is ∙ ap (map (λ x. g (f x))) (take_all i xs past) ∙ fused xs
  where
    fused : (xs : List A) → map (λ x. g (f x)) xs ≡ map g (map f xs)
    fused [] = refl
    fused (x ∷ xs) = ap (λ zs. g (f x) ∷ zs) (fused xs)
