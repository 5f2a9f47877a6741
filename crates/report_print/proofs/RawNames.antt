-- Names of events in a set.
use Rattle.std.proofs.Common.{◌≡◌, ℕ, Bool, true, false, ◌||◌, List, [], ◌∷◌, ◌++◌, refl, sym, ap, ◌∙◌}
use Rattle.std.specs.List.{list_any}
use Rattle.std.specs.Str.{bytes_eq}
use Rattle.std.specs.declared.cmp.Ordering.{Ordering}
use Rattle.std.specs.declared.cmp.Ordering.TheVariants.{Less, Equal, Greater}
use Rattle.std.specs.Ordering.{nat_cmp, is_eq, match_ordering}
use Rattle.std.specs.Cmp.Lexicographic.{slice_cmp}
use Rattle.std.specs.BTreeSet.{insert_key}
use Rattle.std.proofs.lemmas.Map.Text.{is_eq-slice_cmp}
use Rattle.std.proofs.lemmas.Map.Lookups.{exact_bytes}
use Rattle.std.proofs.lemmas.List.Folds.{list_any-append}
use Rattle.report_print.specs.RawNames.{IsSetOf}

last_first : (a b : Bool) → (a || b) ≡ (b || a)
last_first true true = refl
last_first true false = refl
last_first false true = refl
last_first false false = refl

once_more : (a b : Bool) → (a || b) ≡ ((a || b) || a)
once_more true b = refl
once_more false true = refl
once_more false false = refl

apart : (a b c : Bool) → (a || (b || c)) ≡ ((a || b) || c)
apart true b c = refl
apart false b c = refl

module _ {K : Type 0} (bytes : K → List ℕ) (test : List ℕ → Bool) where
  abbrev order : K → K → Ordering
  order x y = slice_cmp nat_cmp (bytes x) (bytes y)

  abbrev passes : List K → Bool
  passes = list_any (λ k. test (bytes k))

  inserted : (k : K) (ks : List K) → passes (insert_key order ks k) ≡ (passes ks || test (bytes k))
  inserted k [] = last_first (test (bytes k)) false
  inserted k (x ∷ xs) = by_order (inserted k xs) (order k x) refl
    where
      by_order : passes (insert_key order xs k) ≡ (passes xs || test (bytes k)) → (o : Ordering) → order k x ≡ o → passes (match_ordering o (k ∷ x ∷ xs) (x ∷ xs) (x ∷ insert_key order xs k)) ≡ ((test (bytes x) || passes xs) || test (bytes k))
      by_order later Less e = last_first (test (bytes k)) (test (bytes x) || passes xs)
      by_order later Equal e = once_more (test (bytes x)) (passes xs) ∙ ap (λ (l : List ℕ). (test (bytes x) || passes xs) || test l) (sym (exact_bytes (bytes k) (bytes x) e))
      by_order later Greater e = ap (λ (b : Bool). test (bytes x) || b) later ∙ apart (test (bytes x)) (passes xs) (test (bytes k))

module _ {K : Type 0} (bytes : K → List ℕ) where
  -- a set with one more name
  pub put_name : (keys now : List K) (k : K) (names : List (List ℕ)) → now ≡ insert_key (λ x y. slice_cmp nat_cmp (bytes x) (bytes y)) keys k → IsSetOf keys bytes names → IsSetOf now bytes (names ++ (bytes k ∷ []))
  put_name keys now k names is are name =
      ap (list_any (λ x. bytes_eq name (bytes x))) is ∙ inserted bytes (bytes_eq name) k keys
      ∙ ap (λ (b : Bool). b || bytes_eq name (bytes k)) (are name)
      ∙ ap (λ (b : Bool). list_any (bytes_eq name) names || b) (last_first false (bytes_eq name (bytes k)))
      ∙ sym (list_any-append (bytes_eq name) names (bytes k ∷ []))

  found_in : (name : List ℕ) (keys : List K) → list_any (λ k. is_eq (slice_cmp nat_cmp name (bytes k))) keys ≡ list_any (λ k. bytes_eq name (bytes k)) keys
  found_in name [] = refl
  found_in name (k ∷ keys) = ap (λ (b : Bool). b || list_any (λ k. is_eq (slice_cmp nat_cmp name (bytes k))) keys) (is_eq-slice_cmp name (bytes k)) ∙ ap (λ (b : Bool). bytes_eq name (bytes k) || b) (found_in name keys)

  -- a name is found just where it is one of them
  pub found : (name : List ℕ) (keys : List K) (names : List (List ℕ)) (has : Bool) → IsSetOf keys bytes names → has ≡ list_any (λ k. is_eq (slice_cmp nat_cmp name (bytes k))) keys → has ≡ list_any (bytes_eq name) names
  found name keys names has are is = is ∙ found_in name keys ∙ are name
