-- The least whole mark of those that were looked at.
use Rattle.std.proofs.Common.{◌≡◌, ◌≢◌, ◌⊎◌, ℕ, ◌+◌, ◌*◌, ◌%◌, ◌<◌, ◌≤◌, ◌==◌, min, not, false, length, get_or, List, Option, None, Some, inl, inr, sym, ap, subst, ◌∙◌, arith}
use Rattle.std.specs.Option.{option_eq}
use Rattle.std.proofs.lemmas.Bool.{cases_eq}
use Rattle.tournament_tree.specs.declared.slot_key.SlotKey.{SlotKey}
use Rattle.tournament_tree.specs.declared.slot_key.SlotKey.TheVariants.{Empty}
use Rattle.tournament_tree.specs.Least.{IsLeastAt}
use Rattle.tournament_tree.specs.Nodes.{mark_of, most, nothing}
use Rattle.tournament_tree.proofs.Root.{least_by}

pub record IsLeastSoFar (keys : List SlotKey) (but : Option ℕ) (i m : ℕ) : Type 0 where
  pub least : (j : ℕ) → j < i → but ≢ Some j → m ≤ mark_of j (get_or keys j Empty)
  pub among : (m ≡ nothing * most) ⊎ ((j : ℕ) × ((j < length keys) × (m ≡ mark_of j (get_or keys j Empty))))
  pub most : m ≤ nothing * most

-- one more is looked at
pub looked_at : (keys : List SlotKey) (but : Option ℕ) (i before now : ℕ) → i < length keys → IsLeastSoFar keys but i before
    → now ≡ min before (mark_of i (get_or keys i Empty)) → IsLeastSoFar keys but (i + 1) now
looked_at keys but i before now inside so is =
    let own : ℕ = mark_of i (get_or keys i Empty) in
    record {
      least = λ j lt other. elim (cases_eq j i) as (λ _. now ≤ mark_of j (get_or keys j Empty)) [
        | inl same ↦ subst (λ (k : ℕ). now ≤ mark_of k (get_or keys k Empty)) (sym same) (omega (arith, is))
        | inr before_it ↦ let h = so.least j (omega (arith, lt, before_it)) other in omega (arith, is, h)
      ];
      among = elim (one_of before own) as (λ _. (now ≡ nothing * most) ⊎ ((j : ℕ) × ((j < length keys) × (now ≡ mark_of j (get_or keys j Empty))))) [
        | inl old ↦ subst (λ (n : ℕ). (n ≡ nothing * most) ⊎ ((j : ℕ) × ((j < length keys) × (n ≡ mark_of j (get_or keys j Empty))))) (sym (is ∙ old)) so.among
        | inr new ↦ inr (i, (inside, is ∙ new))
      ];
      most = let h = so.most in omega (arith, is, h);
    }
  where
    one_of : (a b : ℕ) → (min a b ≡ a) ⊎ (min a b ≡ b)
    one_of a b = grind arith

-- the one that is left out is passed over
pub passed_over : (keys : List SlotKey) (but : Option ℕ) (i least : ℕ) → but ≡ Some i → IsLeastSoFar keys but i least → IsLeastSoFar keys but (i + 1) least
passed_over keys but i least is so = record {
  least = λ j lt other. elim (cases_eq j i) as (λ _. least ≤ mark_of j (get_or keys j Empty)) [
    | inl same ↦ absurd (other (is ∙ ap Some (sym same)))
    | inr before ↦ so.least j (omega (arith, lt, before)) other
  ];
  among = so.among;
  most = so.most;
}

pub same_some : (but : Option ℕ) (i : ℕ) → false ≡ not (option_eq (λ x y. x == y) but (Some i)) → but ≡ Some i
same_some None i e = absurd cc
same_some (Some x) i e = ap Some (grind (arith, e))

-- the slot of the least whole mark of all
pub least_slot : (keys : List SlotKey) (m : ℕ) → length keys ≤ most → m ≢ nothing * most
    → ((m ≡ nothing * most) ⊎ ((j : ℕ) × ((j < length keys) × (m ≡ mark_of j (get_or keys j Empty)))))
    → ((j : ℕ) → j < length keys → m ≤ mark_of j (get_or keys j Empty)) → (m % most < length keys) × IsLeastAt keys (Some (m % most))
least_slot keys m few some (inl none) low = absurd (some none)
least_slot keys m few some (inr there) low =
    let least = least_by keys m there.0 few there.1.0 there.1.1 some low in
    subst (λ (i : ℕ). (i < length keys) × IsLeastAt keys (Some i)) least.0 (there.1.0, least.1)

pub none_not_some : (j : ℕ) → None ≢ Some j
none_not_some j e = cc
