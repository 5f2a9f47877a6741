-- Processors whose numbers rise, one more at a time.
use Rattle.std.proofs.Common.{ℕ, ◌<◌, List, [], ◌∷◌, ◌++◌}
use Rattle.trace_base.specs.declared.part.Part.{Part}
use Rattle.subpage.specs.Arrangement.{CpusRise}

pub rise_more : (xs : List (ℕ × Part)) (x y : ℕ × Part) → CpusRise (xs ++ x ∷ []) → x.0 < y.0 → CpusRise ((xs ++ x ∷ []) ++ y ∷ [])
rise_more [] x y rise lt = (lt, tt)
rise_more (a ∷ []) x y rise lt = (rise.0, (lt, tt))
rise_more (a ∷ b ∷ xs) x y rise lt = (rise.0, rise_more (b ∷ xs) x y rise.1 lt)

pub rise_before : (xs : List (ℕ × Part)) (x : ℕ × Part) → CpusRise (xs ++ x ∷ []) → CpusRise xs
rise_before [] x rise = tt
rise_before (a ∷ []) x rise = tt
rise_before (a ∷ b ∷ xs) x rise = (rise.0, rise_before (b ∷ xs) x rise.1)
