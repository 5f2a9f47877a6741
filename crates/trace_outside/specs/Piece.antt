-- What reading a piece of a file answers.
use Rattle.std.specs.Prelude.{Option, Result, Ok, Err, ◌≡◌, ℕ, ◌+◌, ◌<◌, ◌≤◌, List, length, MatchResult}
use Rattle.trace_outside.specs.Reading.{GivesBytesAt}
use Rattle.trace_outside.specs.declared.piece.PieceFault.{PieceFault}
use Rattle.trace_outside.specs.declared.piece.PieceFault.TheVariants.{EndsEarly, Read, Memory}

-- the buffer was filled, or the file ends before
abbrev pub FillsFrom : Option (List ℕ) → ℕ → ℕ → Result Unit PieceFault → List ℕ → Type 0
FillsFrom told size at (Ok done) buffer = (at + length buffer ≤ size) × GivesBytesAt told at (length buffer) buffer
FillsFrom told size at (Err (EndsEarly len)) buffer = (len ≡ size) × (size < at + length buffer)
FillsFrom told size at (Err Read) buffer = Unit {0}
FillsFrom told size at (Err Memory) buffer = ⊥

-- the bytes were given, or the file ends before
abbrev pub GivesPiece : Option (List ℕ) → ℕ → ℕ → ℕ → Result (List ℕ) PieceFault → Type 0
GivesPiece told size at count (Ok bytes) = (length bytes ≡ count) × (at + count ≤ size) × GivesBytesAt told at count bytes
GivesPiece told size at count (Err (EndsEarly len)) = (len ≡ size) × (size < at + count)
GivesPiece told size at count (Err Read) = Unit {0}
GivesPiece told size at count (Err Memory) = at + count ≤ size

-- this fault leaves the count of faults as it was, if it is no failed read
abbrev pub KeptAt : ℕ → ℕ → PieceFault → Type 0
KeptAt before now (EndsEarly len) = now ≡ before
KeptAt before now Read = Unit {0}
KeptAt before now Memory = now ≡ before

-- the count of faults is as it was, but where a read failed
abbrev pub KeptUnlessRead : {T : Type 0} → ℕ → ℕ → Result T PieceFault → Type 0
KeptUnlessRead before now result = MatchResult result (λ _. now ≡ before) (KeptAt before now)
