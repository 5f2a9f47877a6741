-- The digits of a number that is written to the front of a room.
use Rattle.std.proofs.Common.{◌≡◌, ℕ, List, ◌++◌, length, take, ap, ◌∙◌}
use Rattle.std.proofs.Math.Seq.{take-append_seam}

-- digits that stand at the front of a text
pub first_digits : (m : ℕ) (text digits rest : List ℕ) → text ≡ digits ++ rest → m ≡ length digits → take m text ≡ digits
first_digits m text digits rest is is_m = ap (take m) is ∙ ap (λ (n : ℕ). take n (digits ++ rest)) is_m ∙ take-append_seam digits rest
