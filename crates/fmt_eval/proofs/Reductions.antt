-- What a kind leaves of an exact number, and its bits.
use Rattle.std.proofs.Common.{◌≡◌, ℕ, ◌^◌, ◌<◌, ◌-◌, ◌%◌, refl, inl, inr, ap, sym, ◌∙◌, arith}
use Rattle.std.specs.Prelude.{ℤ, pos, negsuc, ◌-ℤ◌, unsigned_abs}
use Rattle.std.specs.Int.{w8, w16, w32, w64, w128, cast_signed, int_rem_euclid, int_wrap}
use Rattle.std.proofs.lemmas.Bool.{cases_lt, lt-ltb, le-ltb}
use Rattle.std.proofs.lemmas.Int.{ints, int_rem_euclid_is}
use Rattle.trace_base.specs.Fields.{signed_of}
use Rattle.fmt_literal.specs.declared.ckind.CKind.{CKind}
use Rattle.fmt_literal.specs.declared.ckind.CKind.TheVariants.{I32, U32, I64, U64}
use Rattle.fmt_eval.specs.Numbers.{reduced, pattern}
use Rattle.fmt_eval.specs.NumView.{exact_bits}

pub reduced_i32 : (z : ℤ) (low bits : ℕ) → low ≡ unsigned_abs (int_rem_euclid z (pos (2 ^ 32))) → cast_signed w64 bits ≡ cast_signed w32 low → cast_signed w64 bits ≡ reduced I32 z
unfolding reduced int_wrap
reduced_i32 z low bits is_low is_bits = is_bits ∙ ap (cast_signed w32) is_low

pub reduced_i64 : (z : ℤ) (bits : ℕ) → bits ≡ unsigned_abs (int_rem_euclid z (pos (2 ^ 64))) → cast_signed w64 bits ≡ reduced I64 z
unfolding reduced int_wrap
reduced_i64 z bits is = ap (cast_signed w64) is

rest_is : (z : ℤ) (n : ℕ) → pos (unsigned_abs (int_rem_euclid z (pos n))) ≡ int_rem_euclid z (pos n)
rest_is (pos a) n = refl
rest_is (negsuc a) n = refl

pub reduced_u32 : (z : ℤ) (bits : ℕ) → bits ≡ unsigned_abs (int_rem_euclid z (pos (2 ^ 32))) → pos bits ≡ reduced U32 z
unfolding reduced
reduced_u32 z bits is = ap pos is ∙ rest_is z (2 ^ 32)

pub reduced_u64 : (z : ℤ) (bits : ℕ) → bits ≡ unsigned_abs (int_rem_euclid z (pos (2 ^ 64))) → pos bits ≡ reduced U64 z
unfolding reduced
reduced_u64 z bits is = ap pos is ∙ rest_is z (2 ^ 64)

-- ---- what is left in 128 bits leaves the same

low_32 : (r : ℕ) → r < 2 ^ 128 → int_rem_euclid (cast_signed w128 r) (pos (2 ^ 32)) ≡ pos (r % 2 ^ 32)
low_32 r small = elim (cases_lt r (2 ^ 127)) as (λ _. int_rem_euclid (cast_signed w128 r) (pos (2 ^ 32)) ≡ pos (r % 2 ^ 32)) [
  | inl less ↦ rw (lt-ltb r (2 ^ 127) less) refl
  | inr more ↦ rw (le-ltb r (2 ^ 127) more) (ap pos (omega arith))
]

low_64 : (r : ℕ) → r < 2 ^ 128 → int_rem_euclid (cast_signed w128 r) (pos (2 ^ 64)) ≡ pos (r % 2 ^ 64)
low_64 r small = elim (cases_lt r (2 ^ 127)) as (λ _. int_rem_euclid (cast_signed w128 r) (pos (2 ^ 64)) ≡ pos (r % 2 ^ 64)) [
  | inl less ↦ rw (lt-ltb r (2 ^ 127) less) refl
  | inr more ↦ rw (le-ltb r (2 ^ 127) more) (ap pos (omega arith))
]

wrapped_32 : (z : ℤ) → int_rem_euclid (int_wrap w128 z) (pos (2 ^ 32)) ≡ int_rem_euclid z (pos (2 ^ 32))
unfolding int_wrap
wrapped_32 (pos a) = low_32 (a % 2 ^ 128) (omega arith) ∙ ap pos (omega arith)
wrapped_32 (negsuc a) = low_32 (2 ^ 128 - 1 - a % 2 ^ 128) (omega arith) ∙ ap pos (omega arith)

wrapped_64 : (z : ℤ) → int_rem_euclid (int_wrap w128 z) (pos (2 ^ 64)) ≡ int_rem_euclid z (pos (2 ^ 64))
unfolding int_wrap
wrapped_64 (pos a) = low_64 (a % 2 ^ 128) (omega arith) ∙ ap pos (omega arith)
wrapped_64 (negsuc a) = low_64 (2 ^ 128 - 1 - a % 2 ^ 128) (omega arith) ∙ ap pos (omega arith)

pub reduced_wrapped : (kind : CKind) (z : ℤ) → reduced kind (int_wrap w128 z) ≡ reduced kind z
unfolding reduced int_wrap
reduced_wrapped I32 z = ap (λ (n : ℤ). cast_signed w32 (unsigned_abs n)) (wrapped_32 z)
reduced_wrapped U32 z = wrapped_32 z
reduced_wrapped I64 z = ap (λ (n : ℤ). cast_signed w64 (unsigned_abs n)) (wrapped_64 z)
reduced_wrapped U64 z = wrapped_64 z

pub signed_8 : (z : ℤ) (low : ℕ) → low ≡ unsigned_abs (int_rem_euclid z (pos (2 ^ 8))) → cast_signed w8 low ≡ int_wrap w8 z
unfolding int_wrap
signed_8 z low is = ap (cast_signed w8) is

pub signed_16 : (z : ℤ) (low : ℕ) → low ≡ unsigned_abs (int_rem_euclid z (pos (2 ^ 16))) → cast_signed w16 low ≡ int_wrap w16 z
unfolding int_wrap
signed_16 z low is = ap (cast_signed w16) is

-- ---- the bits of a number are its pattern

pattern_signed : (bits : ℕ) → bits < 2 ^ 64 → bits ≡ pattern (cast_signed w64 bits)
pattern_signed bits small = elim (cases_lt bits (2 ^ 63)) as (λ _. bits ≡ pattern (cast_signed w64 bits)) [
  | inl less ↦ rw (lt-ltb bits (2 ^ 63) less) (omega arith)
  | inr more ↦ rw (le-ltb bits (2 ^ 63) more) (omega arith)
]

pattern_unsigned : (bits : ℕ) → bits < 2 ^ 64 → bits ≡ pattern (pos bits)
pattern_unsigned bits small = omega arith

-- ---- fields of four and eight bytes

low_of_signed : (n : ℕ) → int_rem_euclid (signed_of 4 n) (pos (2 ^ 32)) ≡ pos (n % 2 ^ 32)
unfolding signed_of
low_of_signed n = elim (cases_lt n (2 ^ 31)) as (λ _. int_rem_euclid (signed_of 4 n) (pos (2 ^ 32)) ≡ pos (n % 2 ^ 32)) [
  | inl less ↦ rw (lt-ltb n (2 ^ 31) less) refl
  | inr more ↦ rw (le-ltb n (2 ^ 31) more) (int_rem_euclid_is (pos n -ℤ pos (2 ^ 32)) (pos (2 ^ 32)) (2 ^ 32) 1 n (omega arith) refl (omega (arith, ints)))
]

whole_of_signed : (n : ℕ) → int_rem_euclid (signed_of 8 n) (pos (2 ^ 64)) ≡ pos (n % 2 ^ 64)
unfolding signed_of
whole_of_signed n = elim (cases_lt n (2 ^ 63)) as (λ _. int_rem_euclid (signed_of 8 n) (pos (2 ^ 64)) ≡ pos (n % 2 ^ 64)) [
  | inl less ↦ rw (lt-ltb n (2 ^ 63) less) refl
  | inr more ↦ rw (le-ltb n (2 ^ 63) more) (int_rem_euclid_is (pos n -ℤ pos (2 ^ 64)) (pos (2 ^ 64)) (2 ^ 64) 1 n (omega arith) refl (omega (arith, ints)))
]

pub signed_half : (bytes half bits : ℕ) → half ≡ bytes % 2 ^ 32 → cast_signed w64 bits ≡ cast_signed w32 half → cast_signed w64 bits ≡ reduced I32 (signed_of 4 bytes)
unfolding reduced int_wrap
signed_half bytes half bits is_half is_bits = is_bits ∙ ap (cast_signed w32) (is_half ∙ ap unsigned_abs (sym (low_of_signed bytes)))

pub unsigned_half : (bytes half : ℕ) → half ≡ bytes % 2 ^ 32 → pos half ≡ reduced U32 (pos bytes)
unfolding reduced
unsigned_half bytes half is_half = ap pos is_half

pub signed_whole : (bytes : ℕ) → bytes < 2 ^ 64 → cast_signed w64 bytes ≡ reduced I64 (signed_of 8 bytes)
unfolding reduced int_wrap
signed_whole bytes small =
    let is : bytes ≡ bytes % 2 ^ 64 = omega arith in
    ap (cast_signed w64) (is ∙ ap unsigned_abs (sym (whole_of_signed bytes)))

pub unsigned_whole : (bytes : ℕ) → bytes < 2 ^ 64 → pos bytes ≡ reduced U64 (pos bytes)
unfolding reduced
unsigned_whole bytes small = ap pos (omega arith)

-- ---- 64 bits stand for a number

low_of_pattern_32 : (z : ℤ) → int_rem_euclid (pos (pattern z)) (pos (2 ^ 32)) ≡ int_rem_euclid z (pos (2 ^ 32))
low_of_pattern_32 (pos a) = ap pos (omega arith)
low_of_pattern_32 (negsuc a) = ap pos (omega arith)

low_of_pattern_64 : (z : ℤ) → int_rem_euclid (pos (pattern z)) (pos (2 ^ 64)) ≡ int_rem_euclid z (pos (2 ^ 64))
low_of_pattern_64 (pos a) = ap pos (omega arith)
low_of_pattern_64 (negsuc a) = ap pos (omega arith)

-- what a kind leaves of a number is what it leaves of its pattern
reduced_pattern : (kind : CKind) (z : ℤ) → reduced kind (pos (pattern z)) ≡ reduced kind z
unfolding reduced int_wrap
reduced_pattern I32 z = ap (λ (n : ℤ). cast_signed w32 (unsigned_abs n)) (low_of_pattern_32 z)
reduced_pattern U32 z = low_of_pattern_32 z
reduced_pattern I64 z = ap (λ (n : ℤ). cast_signed w64 (unsigned_abs n)) (low_of_pattern_64 z)
reduced_pattern U64 z = low_of_pattern_64 z

pub pattern_by : (kind : CKind) (bits : ℕ) → bits < 2 ^ 64 → bits ≡ pattern (exact_bits kind bits)
pattern_by I32 bits small = pattern_signed bits small
pattern_by U32 bits small = pattern_unsigned bits small
pattern_by I64 bits small = pattern_signed bits small
pattern_by U64 bits small = pattern_unsigned bits small

pub narrowed_i32 : (bits low made : ℕ) → low ≡ bits % 2 ^ 32 → cast_signed w64 made ≡ cast_signed w32 low → cast_signed w64 made ≡ reduced I32 (pos bits)
unfolding reduced int_wrap
narrowed_i32 bits low made is_low is_made = is_made ∙ ap (cast_signed w32) is_low

pub narrowed_i64 : (bits : ℕ) → bits < 2 ^ 64 → cast_signed w64 bits ≡ reduced I64 (pos bits)
unfolding reduced int_wrap
narrowed_i64 bits small = let is : bits ≡ bits % 2 ^ 64 = omega arith in ap (cast_signed w64) is

pub converted_is : (kind own : CKind) (bits made : ℕ) → bits < 2 ^ 64 → exact_bits kind made ≡ reduced kind (pos bits) → exact_bits kind made ≡ reduced kind (exact_bits own bits)
converted_is kind own bits made small is =
    is ∙ ap (λ (n : ℕ). reduced kind (pos n)) (pattern_by own bits small) ∙ reduced_pattern kind (exact_bits own bits)

pub pattern_is : (kind : CKind) (bits : ℕ) (z : ℤ) → bits < 2 ^ 64 → exact_bits kind bits ≡ z → bits ≡ pattern z
pattern_is kind bits z small is = pattern_by kind bits small ∙ ap pattern is
