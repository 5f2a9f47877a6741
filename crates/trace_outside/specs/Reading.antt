-- What a read of a file gives, where the file tells its bytes.
use Rattle.std.specs.Prelude.{Option, Result, ◌≡◌, ℕ, ◌<◌, ◌≤◌, List, length, take, drop, IfOk, IfSome}

-- the first so many bytes of the buffer are those of the file from that place on
abbrev pub GivesBytesAt : Option (List ℕ) → ℕ → ℕ → List ℕ → Type 0
GivesBytesAt told at count buffer = IfSome told (λ bytes. take count buffer ≡ take count (drop at bytes))

-- at least one byte came, no more than there is room for, and all of them are the file's
abbrev pub ReadsAt : {E : Type 0} → Option (List ℕ) → ℕ → Result ℕ E → List ℕ → Type 0
ReadsAt told at result buffer = IfOk result (λ count. (0 < count) × (count ≤ length buffer) × GivesBytesAt told at count buffer)
