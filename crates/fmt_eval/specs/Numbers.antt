-- Numbers of C's kinds after promotion, as exact integers that are reduced to their kind (C11 6.3.1.1 and 6.3.1.3).
use Rattle.std.specs.Prelude.{◌≡◌, ℕ, ◌^◌, ℤ, pos, negsuc, ◌+ℤ◌, ◌*ℤ◌, ◌≤ℤ◌, Bool, false, not, ◌==◌, if◌then◌else◌, unsigned_abs}
use Rattle.std.specs.Int.{w32, w64, int_rem_euclid, int_wrap}
use Rattle.fmt_literal.specs.declared.ckind.CKind.{CKind}
use Rattle.fmt_literal.specs.declared.ckind.CKind.TheVariants.{I32, U32, I64, U64}
use Rattle.fmt_literal.specs.Numeral.{width_of}

pub record Number : Type 0 where
  pub kind : CKind
  pub exact : ℤ

abbrev pub number : CKind → ℤ → Number
number kind exact = record { kind = kind; exact = exact }

-- the least and the greatest number of a kind
abbrev pub least : CKind → ℤ
least I32 = negsuc 0x7fff_ffff
least U32 = pos 0
least I64 = negsuc 0x7fff_ffff_ffff_ffff
least U64 = pos 0

abbrev pub greatest : CKind → ℤ
greatest I32 = pos 0x7fff_ffff
greatest U32 = pos 0xffff_ffff
greatest I64 = pos 0x7fff_ffff_ffff_ffff
greatest U64 = pos 0xffff_ffff_ffff_ffff

abbrev pub IsOf : CKind → ℤ → Type 0
IsOf kind z = (least kind ≤ℤ z) × (z ≤ℤ greatest kind)

-- What a kind leaves of an exact number: the number of that kind that differs from it by a multiple of two to the
-- kind's width.
abbrev pub IsReduced : CKind → ℤ → ℤ → Type 0
IsReduced kind z r = IsOf kind r × ((times : ℤ) × (z ≡ r +ℤ times *ℤ pos (2 ^ width_of kind)))

-- this number, computed
unfoldable pub reduced : CKind → ℤ → ℤ
reduced I32 z = int_wrap w32 z
reduced U32 z = int_rem_euclid z (pos (2 ^ 32))
reduced I64 z = int_wrap w64 z
reduced U64 z = int_rem_euclid z (pos (2 ^ 64))

-- the low 64 bits of a number, as two's complement
abbrev pub pattern : ℤ → ℕ
pattern z = unsigned_abs (int_rem_euclid z (pos (2 ^ 64)))

-- 1 or 0, of kind I32 (C11 6.5.8, 6.5.9, 6.5.13 and 6.5.14)
abbrev pub truth : Bool → Number
truth holds = number I32 (if holds then pos 1 else pos 0)

abbrev pub is_zero : ℤ → Bool
is_zero (pos n) = n == 0
is_zero (negsuc n) = false

abbrev pub is_true : Number → Bool
is_true n = not (is_zero n.exact)
