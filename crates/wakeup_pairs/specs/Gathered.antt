-- The pairs in one pass: of each task that waits the time at which it was first woken.
use Rattle.std.specs.Prelude.{ℕ, List, [], ◌∷◌, ◌++◌, Option, Some, None, fold}
use Rattle.std.specs.Ordering.{int_cmp}
use Rattle.std.specs.FinMap as map
use Rattle.wakeup_pairs.specs.declared.wakeup_item.Pair.{Pair}
use Rattle.wakeup_pairs.specs.declared.wakeup_item.Switch.{Switch}
use Rattle.wakeup_pairs.specs.declared.wakeup_item.Wake.{Wake}
use Rattle.wakeup_pairs.specs.declared.wakeup_item.WakeupItem.{WakeupItem}
use Rattle.wakeup_pairs.specs.declared.wakeup_item.WakeupItem.TheVariants.{Wakes, Switches, Lost, Other}
use Rattle.wakeup_pairs.specs.Pairs.{pair_of}

pub record Gathered : Type 0 where
  pub waiting : map.FinMap int_cmp ℕ
  pub pairs : List Pair

abbrev pub none_gathered : Gathered
none_gathered = record { waiting = map.empty; pairs = [] }

-- a task is woken: where it waits already, its first time stays
abbrev pub and_woken : Option ℕ → Gathered → Wake → Gathered
and_woken None g wake = record g { waiting = map.insert g.waiting wake.task wake.time }
and_woken (Some first) g wake = g

-- a switch to a task: where that waits it makes a pair, and waits no longer
abbrev pub and_switched : Option ℕ → Gathered → Switch → Gathered
and_switched None g switch = g
and_switched (Some woken) g switch = record {
  waiting = map.remove g.waiting switch.task;
  pairs = g.pairs ++ pair_of woken switch ∷ [];
}

-- what is gathered after one more of what was seen
abbrev pub and_seen : Gathered → WakeupItem → Gathered
and_seen g (Wakes wake) = and_woken (map.get g.waiting wake.task) g wake
and_seen g (Switches switch) = and_switched (map.get g.waiting switch.task) g switch
and_seen g Lost = record g { waiting = map.empty }
and_seen g Other = g

abbrev pub gathered : List WakeupItem → Gathered
gathered xs = fold and_seen none_gathered xs
