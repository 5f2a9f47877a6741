-- What a kind leaves of an exact number is the one number of that kind that differs from it by a multiple of two to the width.
use Rattle.std.proofs.Common.{◌≡◌, ℕ, ◌+◌, ◌*◌, ◌/◌, ◌%◌, ◌^◌, ◌<◌, ◌≤◌, ◌-◌, zero, suc, ◌⊎◌, inl, inr, sym, ap, ◌∙◌, arith}
use Rattle.std.specs.Prelude.{ℤ, pos, negsuc, ◌+ℤ◌, ◌*ℤ◌}
use Rattle.std.specs.Int.{w32, w64, cast_signed, int_wrap}
use Rattle.std.proofs.lemmas.Bool.{cases_lt, lt-ltb, le-ltb}
use Rattle.std.proofs.lemmas.Int.{ints}
use Rattle.fmt_literal.specs.declared.ckind.CKind.{CKind}
use Rattle.fmt_literal.specs.declared.ckind.CKind.TheVariants.{I32, U32, I64, U64}
use Rattle.fmt_eval.specs.Numbers.{IsReduced, IsOf, reduced}

pub is_u32 : (z : ℤ) → IsReduced U32 z (reduced U32 z)
unfolding reduced
is_u32 (pos a) = ((omega (arith, ints), omega (arith, ints)), (pos (a / 2 ^ 32), omega (arith, ints)))
is_u32 (negsuc a) = ((omega (arith, ints), omega (arith, ints)), (negsuc (a / 2 ^ 32), omega (arith, ints)))

pub is_u64 : (z : ℤ) → IsReduced U64 z (reduced U64 z)
unfolding reduced
is_u64 (pos a) = ((omega (arith, ints), omega (arith, ints)), (pos (a / 2 ^ 64), omega (arith, ints)))
is_u64 (negsuc a) = ((omega (arith, ints), omega (arith, ints)), (negsuc (a / 2 ^ 64), omega (arith, ints)))

-- a signed number above the half: 32 bits
over_32 : (q r : ℕ) → 2 ^ 31 ≤ r → r < 2 ^ 32 → (times : ℤ) × (pos (q * 2 ^ 32 + r) ≡ negsuc (2 ^ 32 - suc r) +ℤ times *ℤ pos (2 ^ 32))
over_32 q r more small = (pos (q + 1), omega (arith, ints))

under_32 : (q r : ℕ) → 2 ^ 31 ≤ r → r < 2 ^ 32 → (times : ℤ) × (negsuc (q * 2 ^ 32 + (2 ^ 32 - 1 - r)) ≡ negsuc (2 ^ 32 - suc r) +ℤ times *ℤ pos (2 ^ 32))
under_32 zero r more small = (pos 0, omega (arith, ints))
under_32 (suc q) r more small = (negsuc q, omega (arith, ints))

low_32 : (q r : ℕ) → r < 2 ^ 31 → (times : ℤ) × (negsuc (q * 2 ^ 32 + (2 ^ 32 - 1 - r)) ≡ pos r +ℤ times *ℤ pos (2 ^ 32))
low_32 q r small = (negsuc q, omega (arith, ints))

is_of_32 : (z : ℤ) (q r : ℕ) → r < 2 ^ 32 → (z ≡ pos (q * 2 ^ 32 + r)) ⊎ (z ≡ negsuc (q * 2 ^ 32 + (2 ^ 32 - 1 - r))) → IsReduced I32 z (cast_signed w32 r)
is_of_32 z q r small is = elim (cases_lt r (2 ^ 31)) as (λ _. IsReduced I32 z (cast_signed w32 r)) [
  | inl less ↦ rw (lt-ltb r (2 ^ 31) less) (
    (omega (arith, ints), omega (arith, ints)),
    elim is as (λ _. (times : ℤ) × (z ≡ pos r +ℤ times *ℤ pos (2 ^ 32))) [
      | inl up ↦ (pos q, omega (arith, ints))
      | inr down ↦ let some = low_32 q r less in (some.0, down ∙ some.1)
    ],
  )
  | inr more ↦ rw (le-ltb r (2 ^ 31) more) (
    (omega (arith, ints), omega (arith, ints)),
    elim is as (λ _. (times : ℤ) × (z ≡ negsuc (2 ^ 32 - suc r) +ℤ times *ℤ pos (2 ^ 32))) [
      | inl up ↦ let some = over_32 q r more small in (some.0, up ∙ some.1)
      | inr down ↦ let some = under_32 q r more small in (some.0, down ∙ some.1)
    ],
  )
]

pub is_i32 : (z : ℤ) → IsReduced I32 z (reduced I32 z)
unfolding reduced int_wrap
is_i32 (pos a) = is_of_32 (pos a) (a / 2 ^ 32) (a % 2 ^ 32) (omega arith) (inl (ap pos (omega arith)))
is_i32 (negsuc a) = is_of_32 (negsuc a) (a / 2 ^ 32) (2 ^ 32 - 1 - a % 2 ^ 32) (omega arith) (inr (ap negsuc (omega arith)))

-- a signed number above the half: 64 bits
over_64 : (q r : ℕ) → 2 ^ 63 ≤ r → r < 2 ^ 64 → (times : ℤ) × (pos (q * 2 ^ 64 + r) ≡ negsuc (2 ^ 64 - suc r) +ℤ times *ℤ pos (2 ^ 64))
over_64 q r more small = (pos (q + 1), omega (arith, ints))

under_64 : (q r : ℕ) → 2 ^ 63 ≤ r → r < 2 ^ 64 → (times : ℤ) × (negsuc (q * 2 ^ 64 + (2 ^ 64 - 1 - r)) ≡ negsuc (2 ^ 64 - suc r) +ℤ times *ℤ pos (2 ^ 64))
under_64 zero r more small = (pos 0, omega (arith, ints))
under_64 (suc q) r more small = (negsuc q, omega (arith, ints))

low_64 : (q r : ℕ) → r < 2 ^ 63 → (times : ℤ) × (negsuc (q * 2 ^ 64 + (2 ^ 64 - 1 - r)) ≡ pos r +ℤ times *ℤ pos (2 ^ 64))
low_64 q r small = (negsuc q, omega (arith, ints))

is_of_64 : (z : ℤ) (q r : ℕ) → r < 2 ^ 64 → (z ≡ pos (q * 2 ^ 64 + r)) ⊎ (z ≡ negsuc (q * 2 ^ 64 + (2 ^ 64 - 1 - r))) → IsReduced I64 z (cast_signed w64 r)
is_of_64 z q r small is = elim (cases_lt r (2 ^ 63)) as (λ _. IsReduced I64 z (cast_signed w64 r)) [
  | inl less ↦ rw (lt-ltb r (2 ^ 63) less) (
    (omega (arith, ints), omega (arith, ints)),
    elim is as (λ _. (times : ℤ) × (z ≡ pos r +ℤ times *ℤ pos (2 ^ 64))) [
      | inl up ↦ (pos q, omega (arith, ints))
      | inr down ↦ let some = low_64 q r less in (some.0, down ∙ some.1)
    ],
  )
  | inr more ↦ rw (le-ltb r (2 ^ 63) more) (
    (omega (arith, ints), omega (arith, ints)),
    elim is as (λ _. (times : ℤ) × (z ≡ negsuc (2 ^ 64 - suc r) +ℤ times *ℤ pos (2 ^ 64))) [
      | inl up ↦ let some = over_64 q r more small in (some.0, up ∙ some.1)
      | inr down ↦ let some = under_64 q r more small in (some.0, down ∙ some.1)
    ],
  )
]

pub is_i64 : (z : ℤ) → IsReduced I64 z (reduced I64 z)
unfolding reduced int_wrap
is_i64 (pos a) = is_of_64 (pos a) (a / 2 ^ 64) (a % 2 ^ 64) (omega arith) (inl (ap pos (omega arith)))
is_i64 (negsuc a) = is_of_64 (negsuc a) (a / 2 ^ 64) (2 ^ 64 - 1 - a % 2 ^ 64) (omega arith) (inr (ap negsuc (omega arith)))

-- two numbers of a kind that differ by a multiple of two to its width are one
one_i32 : (r s m n : ℤ) → IsOf I32 r → IsOf I32 s → r +ℤ m *ℤ pos (2 ^ 32) ≡ s +ℤ n *ℤ pos (2 ^ 32) → r ≡ s
one_i32 r s (pos m) (pos n) f g e = omega (arith, ints)
one_i32 r s (pos m) (negsuc n) f g e = omega (arith, ints)
one_i32 r s (negsuc m) (pos n) f g e = omega (arith, ints)
one_i32 r s (negsuc m) (negsuc n) f g e = omega (arith, ints)

one_u32 : (r s m n : ℤ) → IsOf U32 r → IsOf U32 s → r +ℤ m *ℤ pos (2 ^ 32) ≡ s +ℤ n *ℤ pos (2 ^ 32) → r ≡ s
one_u32 r s (pos m) (pos n) f g e = omega (arith, ints)
one_u32 r s (pos m) (negsuc n) f g e = omega (arith, ints)
one_u32 r s (negsuc m) (pos n) f g e = omega (arith, ints)
one_u32 r s (negsuc m) (negsuc n) f g e = omega (arith, ints)

one_i64 : (r s m n : ℤ) → IsOf I64 r → IsOf I64 s → r +ℤ m *ℤ pos (2 ^ 64) ≡ s +ℤ n *ℤ pos (2 ^ 64) → r ≡ s
one_i64 r s (pos m) (pos n) f g e = omega (arith, ints)
one_i64 r s (pos m) (negsuc n) f g e = omega (arith, ints)
one_i64 r s (negsuc m) (pos n) f g e = omega (arith, ints)
one_i64 r s (negsuc m) (negsuc n) f g e = omega (arith, ints)

one_u64 : (r s m n : ℤ) → IsOf U64 r → IsOf U64 s → r +ℤ m *ℤ pos (2 ^ 64) ≡ s +ℤ n *ℤ pos (2 ^ 64) → r ≡ s
one_u64 r s (pos m) (pos n) f g e = omega (arith, ints)
one_u64 r s (pos m) (negsuc n) f g e = omega (arith, ints)
one_u64 r s (negsuc m) (pos n) f g e = omega (arith, ints)
one_u64 r s (negsuc m) (negsuc n) f g e = omega (arith, ints)

pub one_number : (kind : CKind) (z r s : ℤ) → IsReduced kind z r → IsReduced kind z s → r ≡ s
one_number I32 z r s one two = one_i32 r s one.1.0 two.1.0 one.0 two.0 (sym one.1.1 ∙ two.1.1)
one_number U32 z r s one two = one_u32 r s one.1.0 two.1.0 one.0 two.0 (sym one.1.1 ∙ two.1.1)
one_number I64 z r s one two = one_i64 r s one.1.0 two.1.0 one.0 two.0 (sym one.1.1 ∙ two.1.1)
one_number U64 z r s one two = one_u64 r s one.1.0 two.1.0 one.0 two.0 (sym one.1.1 ∙ two.1.1)
