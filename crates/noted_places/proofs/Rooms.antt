-- Remainders by the bits below a power of two.
use Rattle.std.proofs.Common.{◌≡◌, ℕ, ◌+◌, ◌-◌, ◌%◌, ◌^◌, ◌<◌, bit_and, sym, ap, ◌∙◌, arith}
use Rattle.std.specs.Int.{IsPowerOfTwo}
use Rattle.std.proofs.lemmas.Nat.{and_mask, mod_below}

pub remainder_less : (n room : ℕ) → 0 < room → n % room < room
remainder_less n room some = mod_below n room some

pub masked : (n mask : ℕ) → IsPowerOfTwo (mask + 1) → bit_and n mask ≡ n % (mask + 1)
masked n mask p =
    let below : mask ≡ 2 ^ p.0 - 1 = omega (arith, p.1) in
    ap (bit_and n) below ∙ and_mask n p.0 ∙ ap (λ (room : ℕ). n % room) (sym p.1)
