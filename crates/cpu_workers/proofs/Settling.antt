-- Lanes that formatting changes no more.
use Rattle.std.proofs.Common.{◌≡◌, ℕ, List, [], ◌∷◌, length, refl, sym, subst, ◌∙◌, arith, inl, inr}
use Rattle.std.specs.Prelude.{◌==◌, nat_le}
use Rattle.std.proofs.lemmas.Bool.{cases_Bool}
use Rattle.subpage.specs.ItemData.{ItemData}
use Rattle.subpage.specs.Arrangement.{Keyed}
use Rattle.line_holes.specs.Holes.{LineText}
use Rattle.page_pool.specs.Limits.{most_of}
use Rattle.page_pool.specs.declared.lane.Lane.{Lane}
use Rattle.page_pool.specs.Keeping.{forming}
use Rattle.page_pool.proofs.Keeping.{lane_still}
use Rattle.event_cursor.specs.Standing.{keyed_held}
use Rattle.cpu_workers.specs.Spaces.{Space, has_no_room, with_line, fill, space_of}
use Rattle.cpu_workers.specs.Formats.{IsFormatted, IsSettled}
use Rattle.cpu_workers.proofs.Filling.{fill_more, fill_none, fill_on}
use Rattle.cpu_workers.proofs.Using.{used_none}

module _ (text : ℕ → ItemData → LineText) where
  -- filling what filling left changes nothing
  fill_again : (before : Space) (items : List Keyed)
      → fill text (fill text before items).0 (fill text before items).1 ≡ fill text before items
  fill_again before [] = refl
  fill_again before (x ∷ xs) =
      let P : Space × List Keyed → Type 0 = λ r. fill text r.0 r.1 ≡ r in
      let more = with_line (text x.cpu x.item) x.key before in
      elim (cases_Bool (nat_le (most_of before.limit) before.used)) as (λ _. P (fill text before (x ∷ xs))) [
        | inl used_up ↦ let left = fill_none text before x xs used_up in subst P (sym left) left
        | inr takes ↦ let on = fill_more text before x xs takes in
            subst P (sym on) (elim (cases_Bool (length (text x.cpu x.item).bytes == 0)) as (λ _. P (fill_on text before x xs)) [
              | inl none ↦ rw none (fill_again before xs)
              | inr some ↦ elim (cases_Bool (has_no_room before (length (text x.cpu x.item).bytes))) as (λ _. P (fill_on text before x xs)) [
                | inl full ↦ let left : fill_on text before x xs ≡ (before, x ∷ xs) = rw (some, full) refl in subst P (sym left) (on ∙ left)
                | inr fits ↦ rw (some, fits) (fill_again more xs)
              ]
            ])
      ]

  pub settled_behind : (before now : Lane) → IsFormatted text before now → IsSettled text now
  settled_behind before now formatted =
      let P : Space × List Keyed → Type 0 = λ r. fill text r.0 r.1 ≡ r in
      subst P formatted.filled (fill_again (space_of before.region) (keyed_held before))

  -- a settled lane is formatted as it stands
  pub settled_formatted : (a : Lane) → IsSettled text a → IsFormatted text a a
  settled_formatted a settled = record {
    filled = settled;
    keeps = lane_still forming a;
    unheld = λ _. refl;
    most = omega arith;
    used = refl;
    behind = used_none a a refl refl;
    high = refl;
    sorted = λ s. s;
    stands = λ file s. s;
  }
