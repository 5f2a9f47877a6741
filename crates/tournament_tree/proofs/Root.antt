-- The first node is the least of all leaves.
use Rattle.std.proofs.Common.{◌≡◌, ◌≢◌, ℕ, zero, suc, ◌+◌, ◌-◌, ◌*◌, ◌/◌, ◌%◌, ◌<◌, ◌≤◌, ◌⊎◌, min, List, ◌∷◌, ◌++◌, length, get_or, take, drop, Option, Some, None, refl, sym, ap, subst, ◌∙◌, arith, length-drop, inl, inr}
use Rattle.std.specs.Prelude.{All}
use Rattle.std.proofs.lemmas.List.{get_or-take, get_or-drop, length-take-le, drop_more, take-append-drop}
use Rattle.std.proofs.lemmas.List.Elements.{All-from_get_or}
use Rattle.tournament_tree.specs.declared.slot_key.SlotKey.{SlotKey}
use Rattle.tournament_tree.specs.declared.slot_key.SlotKey.TheVariants.{Empty, Start, At}
use Rattle.tournament_tree.specs.Least.{IsLeastOf, NotBefore, from_time, rank}
use Rattle.tournament_tree.specs.Nodes.{HasLeaves, IsSettled, IsSmall, IsTelling, highest, mark_of, most, node, nothing, scale, short_of, whole}
use Rattle.tournament_tree.proofs.Short.{less_mark, same_mark, whole_less}

module _ (slots : ℕ) (nodes : List ℕ) (settled : (q : ℕ) → 1 ≤ q → q < slots → IsSettled nodes q) where
  up_root : (fuel q : ℕ) → q ≤ fuel → 1 ≤ q → q < 2 * slots → node nodes 1 ≤ node nodes q
  up_root zero q f one lt = absurd (omega (arith, f, one))
  up_root (suc fuel) zero f one lt = absurd (omega (arith, one))
  up_root (suc fuel) (suc zero) f one lt = omega arith
  up_root (suc fuel) (suc (suc n)) f one lt =
      let q : ℕ = suc (suc n) in
      let p : ℕ = q / 2 in
      let parent : node nodes p ≡ min (node nodes (2 * p)) (node nodes (2 * p + 1)) = settled p (omega arith) (omega (arith, lt)) in
      let root : node nodes 1 ≤ node nodes p = up_root fuel p (omega (arith, f)) (omega arith) (omega (arith, lt)) in
      elim (halves q) as (λ _. node nodes 1 ≤ node nodes q) [
        | inl even ↦ subst (λ (m : ℕ). node nodes 1 ≤ node nodes m) (sym even) (omega (arith, root, parent))
        | inr odd ↦ subst (λ (m : ℕ). node nodes 1 ≤ node nodes m) (sym odd) (omega (arith, root, parent))
      ]
    where
      halves : (q : ℕ) → (q ≡ 2 * (q / 2)) ⊎ (q ≡ 2 * (q / 2) + 1)
      halves q = grind arith

  abbrev LeafOf : ℕ → Type 0
  LeafOf q = (i : ℕ) × ((i < slots) × (node nodes q ≡ node nodes (slots + i)))

  is_leaf : (fuel q : ℕ) → 2 * slots ≤ q + fuel → 1 ≤ q → q < 2 * slots → LeafOf q
  is_leaf zero q f one lt = absurd (omega (arith, f, lt))
  is_leaf (suc fuel) q f one lt = elim (inside q) as (λ _. LeafOf q) [
    | inl inner ↦
        let left : LeafOf (2 * q) = is_leaf fuel (2 * q) (omega (arith, f, one)) (omega (arith, one)) (omega (arith, inner)) in
        let right : LeafOf (2 * q + 1) = is_leaf fuel (2 * q + 1) (omega (arith, f, one)) (omega (arith, one)) (omega (arith, inner)) in
        elim (one_of (node nodes (2 * q)) (node nodes (2 * q + 1))) as (λ _. LeafOf q) [
          | inl is ↦ (left.0, (left.1.0, settled q one inner ∙ is ∙ left.1.1))
          | inr is ↦ (right.0, (right.1.0, settled q one inner ∙ is ∙ right.1.1))
        ]
    | inr outer ↦ (q - slots, (omega (arith, lt, outer), ap (node nodes) (back outer)))
  ]
    where
      inside : (q : ℕ) → (q < slots) ⊎ (slots ≤ q)
      inside q = grind arith

      one_of : (a b : ℕ) → (min a b ≡ a) ⊎ (min a b ≡ b)
      one_of a b = grind arith

      back : slots ≤ q → q ≡ slots + (q - slots)
      back le = omega (arith, le)

key_none : (m i : ℕ) (key : SlotKey) → m ≤ mark_of i key → m ≡ nothing * most → i < most → IsSmall key → key ≡ Empty
key_none m i Empty up here lt small = refl
key_none m i Start up here lt small = absurd (omega (arith, up, here, lt))
key_none m i (At time) up here lt small = absurd (omega (arith, up, here, lt, small))

key_sooner : (r s j : ℕ) (key : SlotKey) → r * most + s ≤ mark_of j key → j < s → NotBefore (r + 1) key
key_sooner r s j Empty up lt = tt
key_sooner r s j Start up lt = omega (arith, up, lt)
key_sooner r s j (At time) up lt = omega (arith, up, lt)

key_later : (r s j : ℕ) (key : SlotKey) → r * most + s ≤ mark_of j key → j < most → NotBefore r key
key_later r s j Empty up lt = tt
key_later r s j Start up lt = omega (arith, up, lt)
key_later r s j (At time) up lt = omega (arith, up, lt)

has_key : (m i : ℕ) (key : SlotKey) → m ≡ mark_of i key → m ≢ nothing * most → (here : Option ℕ) × (key ≡ from_time here)
has_key m i Empty same ne = absurd (ne same)
has_key m i Start same ne = (None, refl)
has_key m i (At time) same ne = (Some time, refl)

mark_from : (i : ℕ) (time : Option ℕ) → mark_of i (from_time time) ≡ rank time * most + i
mark_from i None = refl
mark_from i (Some time) = refl

-- a slot than whose leaf no other is less
pub least_of : (keys : List SlotKey) (i : ℕ) (here : Option ℕ) → i < length keys → length keys ≤ most → get_or keys i Empty ≡ from_time here
    → ((j : ℕ) → j < length keys → rank here * most + i ≤ mark_of j (get_or keys j Empty)) → IsLeastOf keys i here
least_of keys i here lt few is up =
    let length_front : length (take i keys) ≡ i = length-take-le i keys (omega (arith, lt)) in
    record {
      before = take i keys;
      after = drop (i + 1) keys;
      split = sym (take-append-drop i keys) ∙ ap (λ (ys : List SlotKey). take i keys ++ ys) (drop_more keys i Empty lt) ∙ ap (λ (k : SlotKey). take i keys ++ k ∷ drop (i + 1) keys) is;
      place = length_front;
      sooner = All-from_get_or (NotBefore (rank here + 1)) (take i keys) Empty (λ j ltj.
          let inside : j < i = omega (arith, ltj, length_front) in
          subst (NotBefore (rank here + 1)) (sym (get_or-take i keys j Empty inside)) (key_sooner (rank here) i j (get_or keys j Empty) (up j (omega (arith, inside, lt))) inside));
      later = All-from_get_or (NotBefore (rank here)) (drop (i + 1) keys) Empty (λ j ltj.
          let long : length (drop (i + 1) keys) ≡ length keys - (i + 1) = length-drop (i + 1) keys in
          subst (NotBefore (rank here)) (sym (get_or-drop (i + 1) keys j Empty)) (key_later (rank here) i ((i + 1) + j) (get_or keys ((i + 1) + j) Empty) (up ((i + 1) + j) (omega (arith, ltj, long))) (omega (arith, ltj, long, few))));
    }

-- what all slots have where the least whole mark is that of nothing
pub none_by : (keys : List SlotKey) (m : ℕ) → length keys ≤ most → ((i : ℕ) → i < length keys → IsSmall (get_or keys i Empty))
    → ((i : ℕ) → i < length keys → m ≤ mark_of i (get_or keys i Empty)) → m ≡ nothing * most → All (λ next. next ≡ Empty) keys
none_by keys m few small up e = All-from_get_or (λ next. next ≡ Empty) keys Empty (λ i lt. key_none m i (get_or keys i Empty) (up i lt) e (omega (arith, lt, few)) (small i lt))

-- the slot of the least whole mark
pub least_by : (keys : List SlotKey) (m i : ℕ) → length keys ≤ most → i < length keys → m ≡ mark_of i (get_or keys i Empty) → m ≢ nothing * most
    → ((j : ℕ) → j < length keys → m ≤ mark_of j (get_or keys j Empty)) → (i ≡ m % most) × ((here : Option ℕ) × IsLeastOf keys i here)
least_by keys m i few lt is ne low =
    let key = has_key m i (get_or keys i Empty) is ne in
    let here : Option ℕ = key.0 in
    let whole : m ≡ rank here * most + i = is ∙ ap (mark_of i) key.1 ∙ mark_from i here in
    let up : (j : ℕ) → j < length keys → rank here * most + i ≤ mark_of j (get_or keys j Empty) = λ j ltj. subst (λ (n : ℕ). n ≤ mark_of j (get_or keys j Empty)) whole (low j ltj) in
    (omega (arith, whole, lt, few), (here, least_of keys i here lt few key.1 up))

module _ (keys : List SlotKey) (base : ℕ) (nodes : List ℕ) (some : 0 < length keys) (few : length keys ≤ scale) (low : base ≤ highest)
    (leaves : HasLeaves base nodes keys) (settled : (q : ℕ) → 1 ≤ q → q < length keys → IsSettled nodes q) where
  up_leaf : (i : ℕ) → i < length keys → node nodes 1 ≤ short_of base i (get_or keys i Empty)
  up_leaf i lt = subst (λ (m : ℕ). node nodes 1 ≤ m) (leaves i lt) (up_root (length keys) nodes settled (length keys + i) (length keys + i) (omega arith) (omega (arith, some)) (omega (arith, lt)))

  pub least_at : IsTelling (node nodes 1) → (node nodes 1 % scale < length keys) × ((here : Option ℕ) × IsLeastOf keys (node nodes 1 % scale) here)
  least_at telling =
      let m : ℕ = node nodes 1 in
      let leaf = is_leaf (length keys) nodes settled (2 * length keys) 1 (omega arith) (omega arith) (omega (arith, some)) in
      let i : ℕ = leaf.0 in
      let lt : i < length keys = leaf.1.0 in
      let is : m ≡ short_of base i (get_or keys i Empty) = leaf.1.1 ∙ leaves i lt in
      let same = same_mark base i (get_or keys i Empty) m (omega (arith, lt, few)) telling is in
      let up : (j : ℕ) → j < length keys → whole base m ≤ mark_of j (get_or keys j Empty) = λ j ltj. less_mark base j (get_or keys j Empty) m low (omega (arith, ltj, few)) telling (up_leaf j ltj) in
      let some_there : whole base m ≢ nothing * most = λ e. whole_less base m low telling e in
      let least = least_by keys (whole base m) i (omega (arith, few)) lt same.1 some_there up in
      let P : ℕ → Type 0 = λ s. (s < length keys) × ((h : Option ℕ) × IsLeastOf keys s h) in
      subst P same.0 (lt, least.1)
