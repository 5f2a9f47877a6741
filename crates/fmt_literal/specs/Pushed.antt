-- What is appended to a text, also where memory was wanting before all of it was there.
use Rattle.std.specs.Prelude.{◌≡◌, ℕ, List, ◌++◌, take}

-- the text as it was, and after it the first bytes of the piece
pub record GainedFront (before now piece : List ℕ) : Type 0 where
  pub count : ℕ
  pub gained : now ≡ before ++ take count piece
