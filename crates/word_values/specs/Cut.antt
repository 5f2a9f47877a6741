-- A text cut in two at its first byte of a kind, which belongs to neither part.
use Rattle.std.specs.Prelude.{ℕ, Bool, List, [], ◌∷◌, Option, Some, None, option_map, if◌then◌else◌}

pub record Parts : Type 0 where
  pub before : List ℕ
  pub after : List ℕ

abbrev pub parts : List ℕ → List ℕ → Parts
parts before after = record { before = before; after = after }

abbrev pub cut : (ℕ → Bool) → List ℕ → Option Parts
cut is_stop [] = None
cut is_stop (c ∷ cs) =
    if is_stop c
    then Some (parts [] cs)
    else option_map (λ p. parts (c ∷ p.before) p.after) (cut is_stop cs)
