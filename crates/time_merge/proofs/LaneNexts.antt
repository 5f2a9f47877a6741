-- Which lane is next.
use Rattle.std.proofs.Common.{◌≡◌, ℕ, ◌<◌, List, [], length, get_or, map, Option, Some, sym, subst, ◌∙◌, ◌⊎◌, inl, inr}
use Rattle.std.specs.List.{All}
use Rattle.std.proofs.lemmas.List.{get_or_default}
use Rattle.subpage.specs.Arrangement.{CpusRise}
use Rattle.subpage.specs.Cut.{Cut}
use Rattle.page_pool.specs.declared.lane.Lane.{Lane}
use Rattle.page_pool.specs.declared.cursor.LaneState.{LaneState}
use Rattle.page_pool.specs.declared.cursor.LaneState.TheVariants.{Fresh, Held, Ended, Malformed}
use Rattle.event_cursor.specs.Standing.{Stands}
use Rattle.time_merge.specs.Rows.{least_cut}
use Rattle.time_merge.specs.LaneRows.{IsReady, next_of, parts_of, rows_of, to_come}
use Rattle.time_merge.specs.Nexts.{IsLeastOf}
use Rattle.time_merge.proofs.Choosing.{cut_next}
use Rattle.time_merge.specs.LaneNexts.{cut_at}

abbrev made : Option ℕ → ℕ → ℕ → Cut
made key cpu page = record { key = key; cpu = cpu; page = page }

-- the cut of a lane of which the least comes next, with its own key
pub cut_is_next : (file : List ℕ) (lanes : List Lane) (i : ℕ) (here : Option ℕ) (d : Lane) → i < length lanes → (get_or lanes i d).cursor.state ≡ Malformed
    → CpusRise (parts_of lanes) → All (Stands file) lanes → All IsReady lanes → IsLeastOf (map next_of lanes) i here
    → (to_come file lanes ≡ []) × ((e : Lane) → least_cut (rows_of file lanes) ≡ Some (cut_at lanes i e))
cut_is_next file lanes i here d lt bad rise stands ready least =
    let t = cut_next file lanes i here (get_or lanes i d) lt (get_or_default lanes i d (get_or lanes i d) lt) bad rise stands ready least in
    (t.0, λ e. subst (λ (x : Lane). least_cut (rows_of file lanes) ≡ Some (made x.cursor.high x.cpu x.cursor.next)) (get_or_default lanes i d e lt) t.1)

pub not_malformed : (s : LaneState) → (s ≡ Fresh) ⊎ ((s ≡ Held) ⊎ (s ≡ Ended)) → s ≡ Malformed → ⊥
not_malformed s one bad = elim one [
  | inl e ↦ let never : Fresh ≡ Malformed = sym e ∙ bad in absurd cc
  | inr o ↦ elim o [
    | inl e ↦ let never : Held ≡ Malformed = sym e ∙ bad in absurd cc
    | inr e ↦ let never : Ended ≡ Malformed = sym e ∙ bad in absurd cc
  ]
]
