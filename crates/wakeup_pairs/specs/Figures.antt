-- How long tasks waited. Source: trace-cmd-report(1), `-w`.
use Rattle.std.specs.Prelude.{◌≡◌, ℕ, ◌-◌, ◌/◌, ◌<◌, ◌≤◌, nat_lt, if◌then◌else◌, List, Some, length, sum_by, fold, slice_get}
use Rattle.wakeup_pairs.specs.declared.wakeup_item.Pair.{Pair}

-- a switch before its wake-up waited for no time
abbrev pub latency : Pair → ℕ
latency pair = pair.time - pair.woken

abbrev pub average : List Pair → ℕ
average pairs = sum_by latency pairs / length pairs

-- of two the longer wait, and the first of equals; the shorter one
abbrev pub longer : Pair → Pair → Pair
longer one two = if nat_lt (latency one) (latency two) then two else one

abbrev pub shorter : Pair → Pair → Pair
shorter one two = if nat_lt (latency two) (latency one) then two else one

abbrev pub longest : Pair → List Pair → Pair
longest first rest = fold longer first rest

abbrev pub shortest : Pair → List Pair → Pair
shortest first rest = fold shorter first rest

-- No pair's latency is beyond that of this one, and each before it falls short of it.
pub record IsFirstBy (within short : ℕ → ℕ → Type 0) (pairs : List Pair) (one : Pair) : Type 0 where
  pub i : ℕ
  pub there : slice_get pairs i ≡ Some one
  pub all : (k : ℕ) (other : Pair) → slice_get pairs k ≡ Some other → within (latency other) (latency one)
  pub first : (k : ℕ) (other : Pair) → k < i → slice_get pairs k ≡ Some other → short (latency other) (latency one)

-- no pair waited longer than this one, and none before it as long
abbrev pub IsLongest : List Pair → Pair → Type 0
IsLongest pairs one = IsFirstBy (λ other best. other ≤ best) (λ other best. other < best) pairs one

-- no pair waited shorter than this one, and none before it as short
abbrev pub IsShortest : List Pair → Pair → Type 0
IsShortest pairs one = IsFirstBy (λ other best. best ≤ other) (λ other best. best < other) pairs one
