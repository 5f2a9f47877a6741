-- Counts that never fall and stay at the last 64-bit number, and faults that show in such a count.
use Rattle.std.specs.Prelude.{Result, ℕ, ◌+◌, ◌-◌, ◌^◌, ◌≤◌, ◌≡◌, min, max, OnOk, OnErr, MatchResult}

-- the count after so many more
abbrev pub raised : ℕ → ℕ → ℕ
raised count by = max count (min (count + by) (2 ^ 64 - 1))

-- it went up, or it stands at its last value
abbrev pub Rose : ℕ → ℕ → Type 0
Rose before now = raised before 1 ≤ now

-- the count did not fall, where the call failed it rose, and a success left it as it was
pub record HasCause {T E : Type 0} (before now : ℕ) (result : Result T E) : Type 0 where
  pub later : before ≤ now
  pub failed : OnErr result (Rose before now)
  pub kept : OnOk result (now ≡ before)

-- the call failed exactly where it raised the count
abbrev pub FailsJustThere : {T E : Type 0} → ℕ → ℕ → Result T E → Type 0
FailsJustThere before now result = MatchResult result (λ _. now ≡ before) (λ _. now ≡ raised before 1)
