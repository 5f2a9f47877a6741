-- Lanes that were lent as a whole.
use Rattle.std.proofs.Common.{◌≡◌, List, Result, Ok, Err, length, refl, ap, subst, sym, ◌∙◌}
use Rattle.std.specs.Result.{OnOk}
use Rattle.page_pool.specs.Lending.{written}
use Rattle.page_pool.specs.InOrder.{IsInOrder}
use Rattle.page_pool.specs.declared.lane.Lane.{Lane}
use Rattle.page_pool.proofs.Keeping.{one_lane}
use Rattle.event_cursor.specs.declared.places.Place.{Place}
use Rattle.time_merge.specs.LaneRows.{parts_of}
use Rattle.time_merge.proofs.Advancing.{same_length}
use Rattle.time_merge.proofs.LentLanes.{all_written}
use Rattle.split_passes.specs.Begun.{AreNoted}

pub lent_is : (lanes given now : List Lane) → given ≡ lanes → parts_of now ≡ parts_of given → written lanes now ≡ now
lent_is lanes given now same parts = all_written lanes now (same_length now given parts ∙ ap length same)

-- what is said of the lanes that were lent is said of all
pub lent : (P : List Lane → List Lane → Type 0) (lanes given now : List Lane) → given ≡ lanes → parts_of now ≡ parts_of given → P given now → P lanes (written lanes now)
lent P lanes given now same parts p =
    subst (P lanes) (sym (lent_is lanes given now same parts)) (subst (λ (ls : List Lane). P ls now) same p)

pub on_ok_all : {T E P Q R S : Type 0} (result : Result T E) → (P → Q → R → S) → OnOk result P → OnOk result Q → OnOk result R → OnOk result S
on_ok_all (Ok x) all p q r = all p q r
on_ok_all (Err e) all p q r = tt

pub noted_there : (given lanes : List Lane) (fronts now : List Place) → given ≡ lanes → now ≡ fronts → AreNoted given fronts → AreNoted lanes now
noted_there given lanes fronts now same is noted = subst (λ (ps : List Place). AreNoted lanes ps) (sym is) (subst (λ (ls : List Lane). AreNoted ls fronts) same noted)

-- a lane whose fact was shown anew is the lane itself
pub lane_again : (a : Lane) (order : IsInOrder a.layout a.page a.cursor) → record a { in_order = order } ≡ a
lane_again a order = one_lane (record a { in_order = order }) a refl refl refl refl refl refl
