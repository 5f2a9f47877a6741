-- What a pass leaves of a file's count of faults.
use Rattle.std.specs.Prelude.{◌≡◌, ℕ, Result, MatchResult}
use Rattle.item_pass.specs.declared.passing.PassFault.{PassFault}
use Rattle.item_pass.specs.declared.passing.PassFault.TheVariants.{Read, Memory}

-- this fault leaves the count as it was, if it is no failed read
abbrev pub KeptAt : ℕ → ℕ → PassFault → Type 0
KeptAt before now Read = Unit {0}
KeptAt before now Memory = now ≡ before

-- the count is as it was, but where a read failed
abbrev pub KeptUnlessRead : {T : Type 0} → ℕ → ℕ → Result T PassFault → Type 0
KeptUnlessRead before now result = MatchResult result (λ _. now ≡ before) (KeptAt before now)
