-- What a write adds to a sink. A sink that does not tell its bytes goes on not telling them.
use Rattle.std.specs.Prelude.{Option, Result, ◌≡◌, ℕ, ◌<◌, ◌≤◌, List, length, take, MatchResult}
use Rattle.std.specs.Io.KnownBytes.{append_known}

-- a prefix of the piece was taken, at least one byte of a piece that has some; a failed write took nothing, and a write of nothing does not fail
abbrev pub Takes : {E : Type 0} → Option (List ℕ) → Option (List ℕ) → List ℕ → Result ℕ E → Type 0
Takes old new piece result = MatchResult result
    (λ count. (count ≤ length piece) × (0 < length piece → 0 < count) × (new ≡ append_known old (take count piece)))
    (λ _. (0 < length piece) × (new ≡ old))

-- the sink gained just this text
abbrev pub Gained : Option (List ℕ) → Option (List ℕ) → List ℕ → Type 0
Gained old new text = new ≡ append_known old text

-- the sink gained the first few bytes of this text
abbrev pub GainedPrefix : Option (List ℕ) → Option (List ℕ) → List ℕ → Type 0
GainedPrefix old new text = (count : ℕ) × Gained old new (take count text)
