-- Wake-ups and switches, and which of them belong together. Source: trace-cmd-report(1), `-w`, by which a task's wait is
-- counted from the wake-up that first woke it. That a loss ends all waits is this project's own.
-- Places are those of a list of what was seen, counted from 0.
use Rattle.std.specs.Prelude.{◌≡◌, ◌≢◌, ℕ, ℤ, ◌+◌, ◌<◌, ◌≤◌, List, [], ◌∷◌, slice_get, Some, Contains}
use Rattle.std.specs.List.{AllZip}
use Rattle.wakeup_pairs.specs.declared.wakeup_item.Pair.{Pair}
use Rattle.wakeup_pairs.specs.declared.wakeup_item.Switch.{Switch}
use Rattle.wakeup_pairs.specs.declared.wakeup_item.Wake.{Wake}
use Rattle.wakeup_pairs.specs.declared.wakeup_item.WakeupItem.{WakeupItem}
use Rattle.wakeup_pairs.specs.declared.wakeup_item.WakeupItem.TheVariants.{Wakes, Switches, Lost, Other}

-- neither a loss nor a switch to the task
abbrev pub IsQuiet : ℤ → WakeupItem → Type 0
IsQuiet task (Wakes wake) = Unit {0}
IsQuiet task (Switches switch) = switch.task ≢ task
IsQuiet task Lost = ⊥
IsQuiet task Other = Unit {0}

-- At place i the task was woken, and up to place j, without it, there is no loss and no switch to it.
pub record WaitsFrom (xs : List WakeupItem) (task : ℤ) (i j : ℕ) : Type 0 where
  pub wake : Wake
  pub there : slice_get xs i ≡ Some (Wakes wake)
  pub same : wake.task ≡ task
  pub before : i < j
  pub quiet : (k : ℕ) (x : WakeupItem) → i < k → k < j → slice_get xs k ≡ Some x → IsQuiet task x

-- The switch at place j is paired with the wake-up at place i: of those from which its task waits it is the first.
pub record IsPaired (xs : List WakeupItem) (i j : ℕ) : Type 0 where
  pub switch : Switch
  pub there : slice_get xs j ≡ Some (Switches switch)
  pub waits : WaitsFrom xs switch.task i j
  pub first : (h : ℕ) → WaitsFrom xs switch.task h j → i ≤ h

-- what is told of a switch and the time of its wake-up: the pid is the task's
abbrev pub pair_of : ℕ → Switch → Pair
pair_of woken switch = record {
  cpu = switch.cpu;
  woken = woken;
  time = switch.time;
  common = record switch.common { pid = switch.task };
}

-- What is told of the two that are paired at these places.
pub record IsPairAt (xs : List WakeupItem) (places : ℕ × ℕ) (pair : Pair) : Type 0 where
  pub paired : IsPaired xs places.0 places.1
  pub told : pair ≡ pair_of paired.waits.wake.time paired.switch

-- the places of the switches rise, and the first is not below this one
abbrev pub RiseFrom : ℕ → List (ℕ × ℕ) → Type 0
RiseFrom n [] = Unit {0}
RiseFrom n (place ∷ places) = (n ≤ place.1) × RiseFrom (place.1 + 1) places

-- These are the pairs: one for each two places that are paired, in the order of the switches.
pub record ArePairs (xs : List WakeupItem) (pairs : List Pair) : Type 0 where
  pub places : List (ℕ × ℕ)
  pub rise : RiseFrom 0 places
  pub each : AllZip (IsPairAt xs) places pairs
  pub all : (i j : ℕ) → IsPaired xs i j → Contains places (i, j)
