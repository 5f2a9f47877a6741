-- Names at the places of their numbers.
use Rattle.std.proofs.Common.{◌≡◌, ℕ, zero, suc, ◌<◌, List, [], ◌∷◌, ◌++◌, Some, None, Bor, length, map, get_or, slice_get, refl, ap, sym, ◌∙◌}
use Rattle.std.specs.Option.{option_map}
use Rattle.std.proofs.lemmas.Option.{slice_get-map, slice_get-get_or}
use Rattle.filter_truth.specs.Numbers.{Keeps}

abbrev texts : List (Bor (List ℕ)) → List (List ℕ)
texts names = map (λ name. name.now) names

pub known_at : (names : List (Bor (List ℕ))) (i : ℕ) (d : Bor (List ℕ)) (name : List ℕ) → i < length names → (get_or names i d).now ≡ name → slice_get (map (λ n. n.now) names) i ≡ Some name
known_at names i d name inside same =
    slice_get-map (λ (n : Bor (List ℕ)). n.now) names i ∙ ap (option_map (λ (n : Bor (List ℕ)). n.now)) (slice_get-get_or names i d inside) ∙ ap Some same

kept_front : (names : List (Bor (List ℕ))) (name : Bor (List ℕ)) → Keeps (texts names) (texts (names ++ name ∷ []))
kept_front [] name zero n there = absurd cc
kept_front [] name (suc number) n there = absurd cc
kept_front (x ∷ names) name zero n there = there
kept_front (x ∷ names) name (suc number) n there = kept_front names name number n there

found_last : (names : List (Bor (List ℕ))) (name : Bor (List ℕ)) → slice_get (texts (names ++ name ∷ [])) (length names) ≡ Some name.now
found_last [] name = refl
found_last (x ∷ names) name = found_last names name

pub kept_more : (front : List (List ℕ)) (old new : List (Bor (List ℕ))) (name : Bor (List ℕ)) → front ≡ map (λ n. n.now) old → new ≡ old ++ name ∷ [] → Keeps front (map (λ n. n.now) new)
kept_more front old new name were is = λ number n there.
    ap (λ l. slice_get (texts l) number) is ∙ kept_front old name number n (sym (ap (λ l. slice_get l number) were) ∙ there)

pub found_more : (old new : List (Bor (List ℕ))) (name : Bor (List ℕ)) (number : ℕ) → new ≡ old ++ name ∷ [] → number ≡ length old → slice_get (map (λ n. n.now) new) number ≡ Some name.now
found_more old new name number is last = ap (λ l. slice_get (texts l) number) is ∙ ap (slice_get (texts (old ++ name ∷ []))) last ∙ found_last old name
