-- Lanes that were lent as a whole.
use Rattle.std.proofs.Common.{◌≡◌, arith, ℕ, ◌+◌, ◌<◌, Bool, List, ◌++◌, length, take, set, get_or, sym, ap, subst, ◌∙◌}
use Rattle.std.proofs.lemmas.List.{append-nil, drop_all, take_all}
use Rattle.std.proofs.lemmas.List.{get_or_default, length-set}
use Rattle.trace_outside.specs.declared.outside.File as file
use Rattle.subpage.specs.ItemData.{ItemData}
use Rattle.page_pool.specs.Lending.{written}
use Rattle.page_pool.specs.declared.lane.Lane.{Lane}
use Rattle.event_cursor.specs.Standing.{most_left}
use Rattle.event_cursor.specs.Stepping.{IsStepped}
use Rattle.time_merge.specs.LaneSteps.{IsLaneStep}
use Rattle.time_merge.specs.Loading.{LoadsLanes}
use Rattle.time_merge.specs.Skipping.{IsLaneUsedUp, IsUsedUp}
use Rattle.time_merge.proofs.Advancing.{same_length}

pub all_written : (lanes now : List Lane) → length now ≡ length lanes → written lanes now ≡ now
all_written lanes now same =
    ap (λ (rest : List Lane). take (length lanes) (now ++ rest)) (drop_all (length now) lanes (omega (arith, same)))
    ∙ ap (take (length lanes)) (append-nil now) ∙ take_all (length lanes) now (omega (arith, same))

-- what loads them while they are lent loads them
pub lent_loads : {F : Type 0} (f : file.Ghosts F) (before after : F) (lanes given now : List Lane) → given ≡ lanes → LoadsLanes f before after given now
    → LoadsLanes f before after lanes (written lanes now)
lent_loads f before after lanes given now same loads =
    let long : length now ≡ length lanes = same_length now given loads.parts ∙ ap length same in
    subst (λ (ls : List Lane). LoadsLanes f before after lanes ls) (sym (all_written lanes now long))
    (subst (λ (ls : List Lane). LoadsLanes f before after ls now) same loads)

-- an item of one is used up
pub lent_step : (lanes given : List Lane) (i : ℕ) (d lane : Lane) → given ≡ lanes → i < length lanes
    → IsStepped (get_or given i d) lane → most_left lane + 1 ≡ most_left (get_or given i d)
    → IsLaneStep lanes i (written lanes (set given i lane))
lent_step lanes given i d lane same lt stepped most =
    let there : (x : Lane) → get_or given i d ≡ get_or lanes i x = λ x. ap (λ (ls : List Lane). get_or ls i d) same ∙ get_or_default lanes i d x lt in
    record {
      lane = lane;
      set = all_written lanes (set given i lane) (length-set given i lane ∙ ap length same) ∙ ap (λ (ls : List Lane). set ls i lane) same;
      stepped = λ x. subst (λ (a : Lane). IsStepped a lane) (there x) stepped;
      most = λ x. most ∙ ap most_left (there x);
    }

-- and maybe some more that do not matter
pub lent_used : (m : ℕ → ItemData → Bool) (lanes given : List Lane) (i : ℕ) (d lane : Lane) → given ≡ lanes → i < length lanes
    → IsUsedUp m (get_or given i d) lane → most_left lane < most_left (get_or given i d)
    → IsLaneUsedUp m lanes i (written lanes (set given i lane))
lent_used m lanes given i d lane same lt used most =
    let there : (x : Lane) → get_or given i d ≡ get_or lanes i x = λ x. ap (λ (ls : List Lane). get_or ls i d) same ∙ get_or_default lanes i d x lt in
    record {
      lane = lane;
      set = all_written lanes (set given i lane) (length-set given i lane ∙ ap length same) ∙ ap (λ (ls : List Lane). set ls i lane) same;
      used = λ x. subst (λ (a : Lane). IsUsedUp m a lane) (there x) used;
      most = λ x. subst (λ (a : Lane). most_left lane < most_left a) (there x) most;
    }
