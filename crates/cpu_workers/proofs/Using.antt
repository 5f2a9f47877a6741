-- Items that are used up, a few after others.
use Rattle.std.proofs.Common.{◌≡◌, ℕ, List, [], ◌∷◌, ◌++◌, Option, Some, refl, sym, ap, ◌∙◌, append_assoc}
use Rattle.subpage.specs.ItemData.{ItemData}
use Rattle.page_pool.specs.declared.lane.Lane.{Lane}
use Rattle.event_cursor.specs.Keys.{key_behind}
use Rattle.event_cursor.specs.Standing.{held_left}
use Rattle.event_cursor.specs.Stepping.{IsStepped}
use Rattle.cpu_workers.specs.Formats.{HasUsed, high_after}

high_both : (high : Option ℕ) (xs ys : List ItemData) → high_after high (xs ++ ys) ≡ high_after (high_after high xs) ys
high_both high [] ys = refl
high_both high (x ∷ xs) ys = high_both (Some (key_behind high x)) xs ys

-- a lane that stands as it stood
pub used_none : (before now : Lane) → held_left now ≡ held_left before → now.cursor.high ≡ before.cursor.high → HasUsed before now
used_none before now left high = record { items = []; left = sym left; high = high }

-- one item
pub used_one : (before mid now : Lane) → held_left mid ≡ held_left before → mid.cursor.high ≡ before.cursor.high → IsStepped mid now → HasUsed before now
used_one before mid now left high step = record {
  items = step.first ∷ [];
  left = sym left ∙ step.left;
  high = step.high ∙ ap (λ (h : Option ℕ). Some (key_behind h step.first)) high;
}

pub used_both : (before mid now : Lane) → HasUsed before mid → HasUsed mid now → HasUsed before now
used_both before mid now one two = record {
  items = one.items ++ two.items;
  left = one.left ∙ ap (λ (rest : List ItemData). one.items ++ rest) two.left ∙ sym (append_assoc one.items two.items (held_left now));
  high = two.high ∙ ap (λ (h : Option ℕ). high_after h two.items) one.high ∙ sym (high_both before.cursor.high one.items two.items);
}
