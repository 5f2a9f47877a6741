-- A range of a file that is copied to a sink.
use Rattle.std.specs.Prelude.{Option, Result, ℕ, List, take, drop, IfSome, MatchResult}
use Rattle.trace_outside.specs.Writing.{Gained, GainedPrefix}

-- the sink gained so many bytes of the file from that place on; after a fault a prefix of them
abbrev pub Copies : {T E : Type 0} → Option (List ℕ) → ℕ → ℕ → Option (List ℕ) → Option (List ℕ) → Result T E → Type 0
Copies told at count old new result = IfSome told (λ bytes. MatchResult result
    (λ _. Gained old new (take count (drop at bytes)))
    (λ _. GainedPrefix old new (take count (drop at bytes))))

-- the first bytes of the range were gained
abbrev pub Copied : Option (List ℕ) → ℕ → ℕ → Option (List ℕ) → Option (List ℕ) → Type 0
Copied told at count old new = IfSome told (λ bytes. Gained old new (take count (drop at bytes)))
