-- Numbers that lie in a range.
use Rattle.std.proofs.Common.{◌≡◌, ℕ, ◌≤◌, nat_le, Bool, true, false, ◌&&◌, Option, Some, None, if◌then◌else◌, refl, arith}
use Rattle.std.specs.Option.{option_and_then}
use Rattle.std.proofs.lemmas.Bool.Decides.{nat_tests}

by_tests : (n m least most : ℕ) (low high : Bool) → nat_le least m ≡ low → nat_le m most ≡ high → (if low && high then Some m else None) ≡ Some n → (least ≤ n) × (n ≤ most)
by_tests n m least most true true e f h = let same : m ≡ n = cc in rw (← same) (grind (arith, nat_tests, e), grind (arith, nat_tests, f))
by_tests n m least most true false e f h = cc
by_tests n m least most false high e f h = cc

pub within_of : (n least most : ℕ) (number : Option ℕ) → option_and_then (λ m. if nat_le least m && nat_le m most then Some m else None) number ≡ Some n → (least ≤ n) × (n ≤ most)
within_of n least most None h = cc
within_of n least most (Some m) h = by_tests n m least most (nat_le least m) (nat_le m most) refl refl h
