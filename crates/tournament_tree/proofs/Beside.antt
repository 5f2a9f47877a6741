-- The least of all leaves but one.
use Rattle.std.proofs.Common.{◌≡◌, ◌≢◌, ℕ, zero, suc, ◌+◌, ◌-◌, ◌*◌, ◌/◌, ◌%◌, ◌<◌, ◌≤◌, ◌⊎◌, min, List, length, get_or, set, Option, Some, None, refl, sym, ap, subst, ◌∙◌, arith, inl, inr}
use Rattle.std.specs.Prelude.{IfSome}
use Rattle.std.proofs.lemmas.List.{get_or-set_same, get_or-set_other, length-set}
use Rattle.std.proofs.lemmas.Bool.{cases_eq}
use Rattle.tournament_tree.specs.declared.slot_key.SlotKey.{SlotKey}
use Rattle.tournament_tree.specs.declared.slot_key.SlotKey.TheVariants.{Empty, At}
use Rattle.tournament_tree.specs.Least.{IsLeastAt}
use Rattle.tournament_tree.specs.Nodes.{IsSettled, above, mark_of, most, node}
use Rattle.tournament_tree.proofs.Root.{least_of}

-- the last step up
above_last : (steps q : ℕ) → above (suc steps) q ≡ above steps q / 2
above_last zero q = refl
above_last (suc steps) q = above_last steps (q / 2)

above_le : (steps q : ℕ) → above steps q ≤ q
above_le zero q = omega arith
above_le (suc steps) q = let h = above_le steps (q / 2) in omega (arith, h)

halves : (q : ℕ) → (q ≡ 2 * (q / 2)) ⊎ (q ≡ 2 * (q / 2) + 1)
halves q = grind arith

-- a node is not greater than one that it stands above
above_least : (slots : ℕ) (nodes : List ℕ) → ((q : ℕ) → 1 ≤ q → q < slots → IsSettled nodes q) → (steps q : ℕ) → 1 ≤ above steps q → q < 2 * slots → node nodes (above steps q) ≤ node nodes q
above_least slots nodes settled zero q one lt = omega arith
above_least slots nodes settled (suc steps) q one lt =
    let p : ℕ = q / 2 in
    let low : above steps p ≤ p = above_le steps p in
    let parent : node nodes p ≡ min (node nodes (2 * p)) (node nodes (2 * p + 1)) = settled p (omega (arith, low, one)) (omega (arith, lt)) in
    let up : node nodes (above steps p) ≤ node nodes p = above_least slots nodes settled steps p one (omega (arith, lt)) in
    elim (halves q) as (λ _. node nodes (above steps p) ≤ node nodes q) [
      | inl even ↦ subst (λ (m : ℕ). node nodes (above steps p) ≤ node nodes m) (sym even) (omega (arith, up, parent))
      | inr odd ↦ subst (λ (m : ℕ). node nodes (above steps p) ≤ node nodes m) (sym odd) (omega (arith, up, parent))
    ]

-- the first node stands above each
to_first : (fuel q : ℕ) → q ≤ fuel → 1 ≤ q → (steps : ℕ) × (above steps q ≡ 1)
to_first zero q few one = absurd (omega (arith, few, one))
to_first (suc fuel) zero few one = absurd (omega (arith, one))
to_first (suc fuel) (suc zero) few one = (zero, refl)
to_first (suc fuel) (suc (suc n)) few one =
    let q : ℕ = suc (suc n) in
    let up = to_first fuel (q / 2) (omega (arith, few)) (omega arith) in
    (suc up.0, up.1)

-- no leaf that a node stands above is less, but for one
abbrev pub IsLeastBelow : ℕ → List ℕ → ℕ → ℕ → ℕ → Type 0
IsLeastBelow slots nodes place at least =
    (steps q : ℕ) → above steps q ≡ at → slots ≤ q → q < 2 * slots → q ≢ place → least ≤ node nodes q

pub none_below : (slots : ℕ) (nodes : List ℕ) (place least : ℕ) → slots ≤ place → IsLeastBelow slots nodes place place least
none_below slots nodes place least inside zero q is from lt other = absurd (other is)
none_below slots nodes place least inside (suc steps) q is from lt other =
    let low : above steps (q / 2) ≤ q / 2 = above_le steps (q / 2) in
    absurd (omega (arith, low, is, from, lt, inside))

-- the two nodes below another
pub beside_even : (at : ℕ) → at % 2 ≡ 0 → (r : ℕ) → r / 2 ≡ at / 2 → (r ≡ at) ⊎ (r ≡ at + 1)
beside_even at even r half = grind arith

pub beside_odd : (at : ℕ) → (at % 2 ≡ 0 → ⊥) → (r : ℕ) → r / 2 ≡ at / 2 → (r ≡ at) ⊎ (r ≡ at - 1)
beside_odd at odd r half = elim (halves at) as (λ _. (r ≡ at) ⊎ (r ≡ at - 1)) [
  | inl even ↦ absurd (odd (omega (arith, even)))
  | inr is ↦ grind arith
]

pub more_below : (slots : ℕ) (nodes : List ℕ) (place at least beside : ℕ) → ((q : ℕ) → 1 ≤ q → q < slots → IsSettled nodes q) → 1 < at → at < 2 * slots
    → ((r : ℕ) → r / 2 ≡ at / 2 → (r ≡ at) ⊎ (r ≡ beside))
    → IsLeastBelow slots nodes place at least → IsLeastBelow slots nodes place (at / 2) (min least (node nodes beside))
more_below slots nodes place at least beside settled some inside around below zero q is from lt other = absurd (omega (arith, is, from, inside))
more_below slots nodes place at least beside settled some inside around below (suc steps) q is from lt other =
    let r : ℕ = above steps q in
    let half : r / 2 ≡ at / 2 = sym (above_last steps q) ∙ is in
    elim (around r half) as (λ _. min least (node nodes beside) ≤ node nodes q) [
      | inl same ↦ let h : least ≤ node nodes q = below steps q same from lt other in omega (arith, h)
      | inr there ↦
          let up : node nodes r ≤ node nodes q = above_least slots nodes settled steps q (omega (arith, half, some)) lt in
          let here : node nodes beside ≤ node nodes q = subst (λ (m : ℕ). node nodes m ≤ node nodes q) there up in
          omega (arith, here)
    ]

pub all_below : (slots : ℕ) (nodes : List ℕ) (place at least : ℕ) → at ≡ 1 → IsLeastBelow slots nodes place at least
    → (q : ℕ) → slots ≤ q → q < 2 * slots → q ≢ place → 1 ≤ q → least ≤ node nodes q
all_below slots nodes place at least one below q from lt other some =
    let up = to_first q q (omega arith) some in
    below up.0 q (up.1 ∙ sym one) from lt other

-- a slot whose whole mark is less than those of all others has the least key
pub least_with : (keys : List SlotKey) (slot mark key : ℕ) → slot < length keys → length keys ≤ most
    → ((j : ℕ) → j < length keys → j ≢ slot → mark ≤ mark_of j (get_or keys j Empty)) → mark_of slot (At key) < mark
    → IsLeastAt (set keys slot (At key)) (Some slot)
least_with keys slot mark key inside few least before =
    let now : List SlotKey = set keys slot (At key) in
    let long : length now ≡ length keys = length-set keys slot (At key) in
    let own : get_or now slot Empty ≡ At key = get_or-set_same keys slot (At key) Empty inside in (
      Some key,
      least_of now slot (Some key) (omega (arith, inside, long)) (omega (arith, few, long)) own (λ j lt.
          elim (cases_eq j slot) as (λ _. mark_of slot (At key) ≤ mark_of j (get_or now j Empty)) [
            | inl same ↦ subst (λ (k : ℕ). mark_of slot (At key) ≤ mark_of k (get_or now k Empty)) (sym same)
                (subst (λ (k : SlotKey). mark_of slot (At key) ≤ mark_of slot k) (sym own) (omega arith))
            | inr other ↦
                let there : mark ≤ mark_of j (get_or keys j Empty) = least j (omega (arith, lt, long)) other in
                let is : mark_of j (get_or keys j Empty) ≡ mark_of j (get_or now j Empty) = ap (mark_of j) (sym (get_or-set_other keys slot j (At key) Empty other)) in
                omega (arith, there, is, before)
          ]),
    )

-- what is known of a number that was found
pub if_some : {P Q : ℕ → Type 0} (o : Option ℕ) → IfSome o P → ((n : ℕ) → P n → Q n) → IfSome o Q
if_some {P} {Q} None h more = tt
if_some {P} {Q} (Some n) h more = more n h
