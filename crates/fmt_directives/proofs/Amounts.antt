-- Widths and precisions: what is computed is what stands there.
use Rattle.std.proofs.Common.{◌≡◌, ◌≢◌, ℕ, zero, suc, ◌+◌, ◌<◌, ◌≤◌, true, false, List, [], ◌∷◌, ◌++◌, length, take, get_or, Some, refl, sym, ap, subst, ◌∙◌, arith, inl, inr}
use Rattle.std.specs.Prelude.{◌==◌, nat_lt}
use Rattle.std.specs.Str.Parse.{digits_value}
use Rattle.std.proofs.lemmas.Bool.{cases_Bool, eqb-true, ne_eqb, or_parts, ltb-false, le-ltb}
use Rattle.std.proofs.lemmas.Bool.Decides.{nat_tests}
use Rattle.std.proofs.lemmas.List.{length-take, take_at}
use Rattle.std.proofs.lemmas.List.Elements.{All-head}
use Rattle.std.proofs.lemmas.List.Sums.{prefix_len-le-length}
use Rattle.std.proofs.lemmas.Option.{none-some, option_and_then_some}
use Rattle.fmt_directives.specs.declared.directive.Amount.{Amount}
use Rattle.fmt_directives.specs.declared.directive.Amount.TheVariants.{Absent, Fixed, FromArgument}
use Rattle.fmt_directives.specs.Bytes.{is_decimal, is_flag, BeginsOutside}
use Rattle.fmt_directives.specs.Directives.{IsNumber, IsAmount, absent, fixed, from_argument, IsPrecision, no_dot, dot, behind_dot}
use Rattle.fmt_directives.specs.Reading.{digits_len, amount, precision}
use Rattle.fmt_directives.proofs.Runs.{run_passes, run_exact}
use Rattle.fmt_directives.proofs.Fronts.{Front, pair, found_is, is_amount, is_precision, before_precision, before_size, outside_less, no_flag, not_before_precision}

abbrev AmountAt : List ℕ → Amount → ℕ → Type 0
AmountAt bytes a n = Front IsAmount bytes a n

none_at : (bytes : List ℕ) → AmountAt bytes Absent 0
none_at bytes = record { within = omega arith; is = absent }

star_at : (bytes : List ℕ) (b : ℕ) → b ≡ 42 → AmountAt (b ∷ bytes) FromArgument 1
star_at bytes b e = record { within = omega arith; is = subst (λ x. IsAmount (x ∷ []) FromArgument) (sym e) from_argument }

digits_at : (bytes : List ℕ) → digits_len bytes ≢ 0 → digits_value 10 (take (digits_len bytes) bytes) ≤ 65535 → AmountAt bytes (Fixed (digits_value 10 (take (digits_len bytes) bytes))) (digits_len bytes)
digits_at bytes some small =
    let all = prefix_len-le-length is_decimal bytes in
    record {
      within = all;
      is = fixed (take (digits_len bytes) bytes) (digits_value 10 (take (digits_len bytes) bytes)) (record {
        some = omega (arith, length-take (digits_len bytes) bytes, all, some);
        each = run_passes is_decimal bytes;
        value = refl;
        listed = small;
      });
    }

pub amount_sound : (bytes : List ℕ) (a : Amount) (n : ℕ) → amount bytes ≡ Some (pair a n) → AmountAt bytes a n
unfolding amount
amount_sound [] a n h = found_is (AmountAt []) Absent a 0 n h (none_at [])
amount_sound (b ∷ bytes) a n h = elim (cases_Bool (b == 42)) [
  | inl star ↦ let found = rw star at h in found_is (AmountAt (b ∷ bytes)) FromArgument a 1 n found (star_at bytes b (eqb-true b 42 star))
  | inr other ↦
      let h1 = rw other at h in
      elim (cases_Bool (digits_len (b ∷ bytes) == 0)) [
        | inl none ↦ let found = rw none at h1 in found_is (AmountAt (b ∷ bytes)) Absent a 0 n found (none_at (b ∷ bytes))
        | inr some ↦
            let h2 = rw some at h1 in
            elim (cases_Bool (nat_lt 65535 (digits_value 10 (take (digits_len (b ∷ bytes)) (b ∷ bytes))))) [
              | inl large ↦ absurd (none-some (pair a n) (rw large at h2))
              | inr small ↦
                  let found = rw small at h2 in
                  found_is (AmountAt (b ∷ bytes)) (Fixed (digits_value 10 (take (digits_len (b ∷ bytes)) (b ∷ bytes)))) a (digits_len (b ∷ bytes)) n found
                  (digits_at (b ∷ bytes) (λ e. absurd (let t : true ≡ false = sym (rw e refl) ∙ some in cc)) (ltb-false _ _ small))
            ]
      ]
]

decimal_no_star : (b : ℕ) → is_decimal b ≡ true → b == 42 ≡ false
decimal_no_star b is = grind (arith, nat_tests, is)

absent_complete : (rest : List ℕ) → BeginsOutside is_amount rest → amount rest ≡ Some (pair Absent 0)
unfolding amount
absent_complete [] out = refl
absent_complete (b ∷ rest) out =
    let parts = or_parts (b == 42) (is_decimal b) (out (omega arith)) in
    rw (parts.0, parts.1) refl

some_complete : (bytes : List ℕ) (len n : ℕ) → get_or bytes 0 0 == 42 ≡ false → digits_len bytes ≡ len → 0 < len → digits_value 10 (take len bytes) ≡ n → n ≤ 65535 → amount bytes ≡ Some (pair (Fixed n) len)
unfolding amount
some_complete bytes len n star is some value small = rw (star, is, ne_eqb len 0 (omega arith), value, le-ltb 65535 n small) refl

fixed_complete : (d : ℕ) (digits rest : List ℕ) (n : ℕ) → IsNumber (d ∷ digits) n → BeginsOutside is_decimal rest → amount ((d ∷ digits) ++ rest) ≡ Some (pair (Fixed n) (length (d ∷ digits)))
fixed_complete d digits rest n is out =
    some_complete ((d ∷ digits) ++ rest) (length (d ∷ digits)) n (decimal_no_star d (All-head (λ y. is_decimal y ≡ true) d digits is.each))
    (run_exact is_decimal (d ∷ digits) rest is.each out) is.some (ap (digits_value 10) (take_at (d ∷ digits) rest (length (d ∷ digits)) refl) ∙ is.value) is.listed

no_decimal : (b : ℕ) → is_amount b ≡ false → is_decimal b ≡ false
no_decimal b h = (or_parts (b == 42) (is_decimal b) h).1

pub amount_complete : (text : List ℕ) (a : Amount) (rest : List ℕ) → IsAmount text a → BeginsOutside is_amount rest → amount (text ++ rest) ≡ Some (pair a (length text))
unfolding amount
amount_complete text a rest absent out = absent_complete rest out
amount_complete text a rest (fixed [] n is) out = absurd (omega (arith, is.some))
amount_complete text a rest (fixed (d ∷ digits) n is) out = fixed_complete d digits rest n is (outside_less is_decimal is_amount rest no_decimal out)
amount_complete text a rest from_argument out = refl

first_no_flag : (b : ℕ) → is_decimal b ≡ true → b ≢ 48 → is_flag b ≡ false
first_no_flag b is other = grind (arith, nat_tests, is, other)

-- a width does not begin with a flag
pub amount_begins : (text : List ℕ) (a : Amount) (rest : List ℕ) → IsAmount text a → get_or text 0 0 ≢ 48 → BeginsOutside before_precision rest → BeginsOutside is_flag (text ++ rest)
amount_begins text a rest absent other out = outside_less is_flag before_precision rest no_flag out
amount_begins text a rest (fixed [] n is) other out = absurd (omega (arith, is.some))
amount_begins text a rest (fixed (d ∷ digits) n is) other out = λ some. first_no_flag d (All-head (λ y. is_decimal y ≡ true) d digits is.each) other
amount_begins text a rest from_argument other out = λ some. refl

abbrev PrecisionAt : List ℕ → Amount → ℕ → Type 0
PrecisionAt bytes a n = Front IsPrecision bytes a n

no_precision_at : (bytes : List ℕ) → PrecisionAt bytes Absent 0
no_precision_at bytes = record { within = omega arith; is = no_dot }

dot_at : (b : ℕ) (bytes : List ℕ) (a : Amount) (n : ℕ) → b ≡ 46 → AmountAt bytes a n → PrecisionAt (b ∷ bytes) (behind_dot a) (1 + n)
dot_at b bytes a n e front =
    let at_b : PrecisionAt (46 ∷ bytes) (behind_dot a) (suc n) = record { within = omega (arith, front.within); is = dot (take n bytes) a front.is } in
    subst (λ x. PrecisionAt (x ∷ bytes) (behind_dot a) (1 + n)) (sym e) (subst (λ m. PrecisionAt (46 ∷ bytes) (behind_dot a) m) (omega arith) at_b)

pub precision_sound : (bytes : List ℕ) (a : Amount) (n : ℕ) → precision bytes ≡ Some (pair a n) → PrecisionAt bytes a n
unfolding precision
precision_sound [] a n h = found_is (PrecisionAt []) Absent a 0 n h (no_precision_at [])
precision_sound (b ∷ bytes) a n h = elim (cases_Bool (b == 46)) [
  | inl is ↦ option_and_then_some (λ c. Some (pair (behind_dot c.0) (1 + c.1))) (amount bytes) (pair a n) (rw is at h)
      (λ c e f. found_is (PrecisionAt (b ∷ bytes)) (behind_dot c.0) a (1 + c.1) n f (dot_at b bytes c.0 c.1 (eqb-true b 46 is) (amount_sound bytes c.0 c.1 e)))
  | inr other ↦ let found = rw other at h in found_is (PrecisionAt (b ∷ bytes)) Absent a 0 n found (no_precision_at (b ∷ bytes))
]

absent_precision : (rest : List ℕ) → BeginsOutside is_precision rest → precision rest ≡ Some (pair Absent 0)
unfolding precision
absent_precision [] out = refl
absent_precision (b ∷ rest) out = rw ((or_parts (b == 46) (is_amount b) (out (omega arith))).0) refl

dot_precision : (text : List ℕ) (a : Amount) (rest : List ℕ) → amount (text ++ rest) ≡ Some (pair a (length text)) → precision (46 ∷ (text ++ rest)) ≡ Some (pair (behind_dot a) (length (46 ∷ text)))
unfolding precision
dot_precision text a rest is = rw is (ap (λ n. Some (pair (behind_dot a) n)) (omega arith))

some_amount : (b : ℕ) → is_precision b ≡ false → is_amount b ≡ false
some_amount b h = (or_parts (b == 46) (is_amount b) h).1

pub precision_complete : (text : List ℕ) (a : Amount) (rest : List ℕ) → IsPrecision text a → BeginsOutside is_precision rest → precision (text ++ rest) ≡ Some (pair a (length text))
precision_complete text a rest no_dot out = absent_precision rest out
precision_complete text a rest (dot of b is) out = dot_precision of b rest (amount_complete of b rest is (outside_less is_amount is_precision rest some_amount out))

pub precision_begins : (text : List ℕ) (a : Amount) (rest : List ℕ) → IsPrecision text a → BeginsOutside before_size rest → BeginsOutside before_precision (text ++ rest)
precision_begins text a rest no_dot out = outside_less before_precision before_size rest not_before_precision out
precision_begins text a rest (dot of b is) out = λ some. refl

-- what follows all flags does not begin with 0, which is a flag
pub no_zero : (bytes : List ℕ) (n : ℕ) → BeginsOutside is_flag bytes → get_or (take n bytes) 0 0 ≢ 48
no_zero bytes zero out e = absurd cc
no_zero [] (suc n) out e = absurd cc
no_zero (b ∷ bytes) (suc n) out e = let t : is_flag b ≡ true = ap is_flag e in let f : is_flag b ≡ false = out (omega arith) in absurd cc
