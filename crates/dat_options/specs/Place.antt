-- Where a text stands in bytes.
use Rattle.std.specs.Prelude.{◌≡◌, ℕ, ◌<◌, List, ◌++◌, length, take, drop}
use Rattle.std.specs.List.{All}

-- the text stands there, from this place on, counted in bytes from 0
pub record StandsAt (text : List ℕ) (at : ℕ) (bytes : List ℕ) : Type 0 where
  pub front : List ℕ
  pub back : List ℕ
  pub whole : bytes ≡ front ++ (text ++ back)
  pub place : length front ≡ at

-- the bytes from this place on begin with the text
abbrev pub GoesOnWith : List ℕ → ℕ → List ℕ → Type 0
GoesOnWith text at bytes = take (length text) (drop at bytes) ≡ text

-- each number is that of a byte
abbrev pub AreBytes : List ℕ → Type 0
AreBytes bytes = All (λ byte. byte < 256) bytes
