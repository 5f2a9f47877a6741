-- A slot's key that is replaced, with its leaf.
use Rattle.std.proofs.Common.{◌≡◌, ℕ, ◌+◌, ◌*◌, ◌<◌, ◌≤◌, List, [], ◌∷◌, ◌++◌, length, get_or, set, take, Option, Some, None, unwrap_or, inl, inr, refl, sym, ap, subst, ◌∙◌, arith}
use Rattle.std.proofs.lemmas.List.{get_or-set_same, get_or-set_other, length-set}
use Rattle.std.proofs.lemmas.Bool.{cases_eq}
use Rattle.tournament_tree.specs.declared.slot_key.SlotKey.{SlotKey}
use Rattle.tournament_tree.specs.declared.slot_key.SlotKey.TheVariants.{Empty, Start, At}
use Rattle.tournament_tree.specs.Nodes.{HasLeaves, IsSmall, IsTimeless, base_with, highest, node, short_of}

-- where no slot had a time, a leaf does not hang on the base
same_short : (base : Option ℕ) (key other : SlotKey) (i : ℕ) → (base ≡ None → IsTimeless other)
    → short_of (unwrap_or base 0) i other ≡ short_of (unwrap_or (base_with base key) 0) i other
same_short (Some base) key other i timeless = refl
same_short None Empty other i timeless = refl
same_short None Start other i timeless = refl
same_short None (At time) Empty i timeless = refl
same_short None (At time) Start i timeless = refl
same_short None (At time) (At before) i timeless = absurd (timeless refl)

was_none : (base : Option ℕ) (key : SlotKey) → base_with base key ≡ None → base ≡ None
was_none (Some base) key e = absurd cc
was_none None key e = refl

set_timeless : (base : Option ℕ) (key : SlotKey) → base_with base key ≡ None → IsTimeless key
set_timeless (Some base) key e = absurd cc
set_timeless None Empty e = tt
set_timeless None Start e = tt
set_timeless None (At time) e = absurd cc

-- each base is low enough
pub low_base : (base : Option ℕ) (key : SlotKey) → unwrap_or base 0 ≤ highest → unwrap_or (base_with base key) 0 ≤ highest
low_base (Some base) key low = low
low_base None Empty low = low
low_base None Start low = low
low_base None (At time) low = omega arith

module _ (keys : List SlotKey) (slot : ℕ) (key : SlotKey) (inside : slot < length keys) where
  pub long : length (set keys slot key) ≡ length keys
  long = length-set keys slot key

  pub small_set : IsSmall key → ((i : ℕ) → i < length keys → IsSmall (get_or keys i Empty)) → (i : ℕ) → i < length (set keys slot key) → IsSmall (get_or (set keys slot key) i Empty)
  small_set new old i lt =
      elim (cases_eq i slot) as (λ _. IsSmall (get_or (set keys slot key) i Empty)) [
        | inl same ↦ subst IsSmall (sym (ap (λ (n : ℕ). get_or (set keys slot key) n Empty) same ∙ get_or-set_same keys slot key Empty inside)) new
        | inr other ↦ subst IsSmall (sym (get_or-set_other keys slot i key Empty other)) (old i (omega (arith, lt, long)))
      ]

  pub leaves_set : (base : ℕ) (nodes new : List ℕ) → length nodes ≡ 2 * length keys → HasLeaves base nodes keys
      → ((i : ℕ) → length keys ≤ i → node new i ≡ node (set nodes (length keys + slot) (short_of base slot key)) i)
      → HasLeaves base new (set keys slot key)
  leaves_set base nodes new size leaves kept i lt =
      let n : ℕ = length keys in
      let e : ℕ = short_of base slot key in
      let below : i < n = omega (arith, lt, long) in
      let now : node new (length (set keys slot key) + i) ≡ node (set nodes (n + slot) e) (n + i) = ap (λ (m : ℕ). node new (m + i)) long ∙ kept (n + i) (omega arith) in
      now ∙ elim (cases_eq i slot) as (λ _. node (set nodes (n + slot) e) (n + i) ≡ short_of base i (get_or (set keys slot key) i Empty)) [
        | inl same ↦
            ap (λ (m : ℕ). node (set nodes (n + slot) e) (n + m)) same ∙ get_or-set_same nodes (n + slot) e 0 (omega (arith, inside, size))
            ∙ ap (short_of base slot) (sym (get_or-set_same keys slot key Empty inside)) ∙ ap (λ (m : ℕ). short_of base m (get_or (set keys slot key) m Empty)) (sym same)
        | inr other ↦
            get_or-set_other nodes (n + slot) (n + i) e 0 (λ same. other (omega (arith, same))) ∙ leaves i below
            ∙ ap (short_of base i) (sym (get_or-set_other keys slot i key Empty other))
      ]

  -- the base that a key sets is that of all other leaves
  pub leaves_with : (base : Option ℕ) (nodes : List ℕ) → (base ≡ None → (i : ℕ) → i < length keys → IsTimeless (get_or keys i Empty))
      → HasLeaves (unwrap_or base 0) nodes keys → HasLeaves (unwrap_or (base_with base key) 0) nodes keys
  leaves_with base nodes timeless leaves i lt = leaves i lt ∙ same_short base key (get_or keys i Empty) i (λ none. timeless none i lt)

  pub timeless_set : (base : Option ℕ) → (base ≡ None → (i : ℕ) → i < length keys → IsTimeless (get_or keys i Empty))
      → base_with base key ≡ None → (i : ℕ) → i < length (set keys slot key) → IsTimeless (get_or (set keys slot key) i Empty)
  timeless_set base timeless none i lt =
      elim (cases_eq i slot) as (λ _. IsTimeless (get_or (set keys slot key) i Empty)) [
        | inl same ↦ subst IsTimeless (sym (ap (λ (n : ℕ). get_or (set keys slot key) n Empty) same ∙ get_or-set_same keys slot key Empty inside)) (set_timeless base key none)
        | inr other ↦ subst IsTimeless (sym (get_or-set_other keys slot i key Empty other)) (timeless (was_none base key none) i (omega (arith, lt, long)))
      ]

-- elements that take the place of as many others
pub refill : {X : Type 0} (n : ℕ) (xs ys : List X) → length xs ≡ n → take n (xs ++ ys) ≡ xs
refill {X} n xs ys long = subst (λ (m : ℕ). take m (xs ++ ys) ≡ xs) long (front xs)
  where
    front : (xs : List X) → take (length xs) (xs ++ ys) ≡ xs
    front [] = refl
    front (x ∷ xs) = ap (λ (zs : List X). x ∷ zs) (front xs)
