-- The lane of the least greatest time.
use Rattle.std.proofs.Common.{◌≡◌, ℕ, ◌<◌, ◌++◌, ◌∷◌, List, length, get_or, map, Option, sym, ap, subst, ◌∙◌}
use Rattle.std.proofs.lemmas.List.{get_or-map, get_or_default}
use Rattle.std.proofs.Math.Seq.{get_or-append_seam}
use Rattle.page_pool.specs.declared.lane.Lane.{Lane}
use Rattle.page_pool.specs.declared.cursor.LaneState.{LaneState}
use Rattle.page_pool.specs.declared.cursor.LaneState.TheVariants.{Fresh, Held, Ended, Malformed}
use Rattle.tournament_tree.specs.declared.slot_key.SlotKey.{SlotKey}
use Rattle.tournament_tree.specs.declared.slot_key.SlotKey.TheVariants.{Empty}
use Rattle.tournament_tree.specs.Least.{from_time}
use Rattle.tournament_tree.proofs.Ranks.{never_empty, same_time}
use Rattle.time_merge.specs.Horizons.{IsLeastLane, high_in, high_of}
use Rattle.time_merge.specs.Nexts.{IsLeastOf}

in_state : (s : LaneState) (high here : Option ℕ) → high_in s high ≡ from_time here → high ≡ here
in_state Fresh high here e = same_time high here e
in_state Held high here e = same_time high here e
in_state Ended high here e = absurd (never_empty here (sym e))
in_state Malformed high here e = same_time high here e

least_high : (lanes : List Lane) (i : ℕ) (here : Option ℕ) (d : Lane) → i < length lanes → IsLeastOf (map high_of lanes) i here → (get_or lanes i d).cursor.high ≡ here
least_high lanes i here d inside least =
    let at : get_or (map high_of lanes) i Empty ≡ from_time here =
    ap (λ (highs : List SlotKey). get_or highs i Empty) least.split
    ∙ ap (λ (k : ℕ). get_or (least.before ++ from_time here ∷ least.after) k Empty) (sym least.place)
    ∙ get_or-append_seam least.before (from_time here) least.after Empty in
    in_state (get_or lanes i d).cursor.state (get_or lanes i d).cursor.high here (sym (get_or-map high_of lanes i d Empty inside) ∙ at)

pub least_lane : (lanes : List Lane) (i : ℕ) (here high : Option ℕ) (d e : Lane) → i < length lanes → IsLeastOf (map high_of lanes) i here
    → (get_or lanes i d).cursor.high ≡ high → IsLeastLane lanes high (get_or lanes i e).cpu
least_lane lanes i here high d e inside least is = record {
  i = i;
  inside = inside;
  least = subst (IsLeastOf (map high_of lanes) i) (sym (least_high lanes i here d inside least) ∙ is) least;
  own = λ any. ap (λ (a : Lane). a.cpu) (get_or_default lanes i any e inside);
}
