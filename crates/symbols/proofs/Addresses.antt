-- Hexadecimal digits at the front of a text.
use Rattle.std.proofs.Common.{◌≡◌, bytes_eq, false, ℕ, suc, ◌++◌, pow-suc, mul_assoc, mul_right_comm, add-mul, ◌+◌, ◌*◌, ◌%◌, ◌^◌, ◌<◌, ◌≤◌, Bool, true, ◌&&◌, ◌||◌, eqb, ltb, leb, codes, List, [], ◌∷◌, Some, length, take, drop, get_or, refl, sym, ap, subst, ◌∙◌, arith}
use Rattle.std.proofs.lemmas.Slice.Eq.{bytes_eq-Decides}
use Rattle.std.proofs.lemmas.Bool.{ltb-true, le-ltb, lt-ltb, lt-leb, le-leb, leb-true, eqb-true, agree_below_at}
use Rattle.std.proofs.lemmas.List.{length-take, length-drop, take-append-drop, take_all, at_drop_more, at_drop_all}
use Rattle.std.proofs.lemmas.List.Folds.{list_all_more, list_all-append}
use Rattle.std.proofs.Math.Seq.{take-add}
use Rattle.std.proofs.lemmas.Int.Digits.{digits_value-lt, digits_value_more}
use Rattle.std.proofs.Math.Nat.{pow-le-pow_right}
use Rattle.std.specs.List.{list_all, prefix_len}
use Rattle.std.specs.Char.{digit_value, is_digit}
use Rattle.std.specs.Str.Parse.{AllDigits, digits_value, digits_value_after}
use Rattle.trace_base.proofs.FieldSteps.{both}
use Rattle.trace_base.proofs.FieldRuns.{BeginsOutside, run_again, run_all}
use Rattle.symbols.specs.LineForms.{is_hexadecimal, IsHalf}
use Rattle.symbols.specs.Forms.{address_at}
use Rattle.symbols.specs.declared.digits.TheConstants.{DIGITS}

run_len : (text : List ℕ) (i : ℕ) → i ≤ length text → list_all is_hexadecimal (take i text) ≡ true → BeginsOutside is_hexadecimal (drop i text) → prefix_len is_hexadecimal text ≡ i
run_len text i within all outside =
    ap (prefix_len is_hexadecimal) (sym (take-append-drop i text)) ∙ run_again is_hexadecimal (take i text) (drop i text) all outside ∙ (let long = length-take i text in omega (arith, long, within))

-- a digit that is none ends the run, and so does the end of the text
pub run_stops : (text : List ℕ) (i : ℕ) → i < length text → list_all is_hexadecimal (take i text) ≡ true → 16 ≤ digit_value (get_or text i 0) → i ≡ prefix_len is_hexadecimal text
run_stops text i inside all none =
    let outside : BeginsOutside is_hexadecimal (get_or text i 0 ∷ drop (i + 1) text) = le-ltb _ _ none in
    sym (run_len text i (omega (arith, inside)) all (subst (BeginsOutside is_hexadecimal) (sym (at_drop_more (λ (l : List ℕ). l) text i 0 inside)) outside))

pub run_whole : (text : List ℕ) (i : ℕ) → length text ≤ i → i ≤ length text → list_all is_hexadecimal (take i text) ≡ true → length text ≡ prefix_len is_hexadecimal text
run_whole text i le ge all =
    let long : i ≡ length text = omega (arith, le, ge) in
    sym (run_len text (length text) (omega arith) (subst (λ (n : ℕ). list_all is_hexadecimal (take n text) ≡ true) long all) (subst (BeginsOutside is_hexadecimal) (sym (at_drop_all (λ (l : List ℕ). l) text (length text) (omega arith))) tt))

-- one more digit
pub digits_more : (text : List ℕ) (i : ℕ) → i < length text → list_all is_hexadecimal (take i text) ≡ true → digit_value (get_or text i 0) < 16 → list_all is_hexadecimal (take (i + 1) text) ≡ true
digits_more text i inside before digit =
    let passes : is_digit (get_or text i 0) 16 ≡ true = lt-ltb _ _ digit in
    list_all_more is_hexadecimal text i 0 inside ∙ rw (before, passes) refl

pub value_more : (text : List ℕ) (i : ℕ) → i < length text → digits_value 16 (take (i + 1) text) ≡ digits_value 16 (take i text) * 16 + digit_value (get_or text i 0)
value_more text i inside = digits_value_more 16 text i inside

-- at most 16 digits write a number of 64 bits
all_digits : (text : List ℕ) → list_all is_hexadecimal text ≡ true → AllDigits 16 text
all_digits [] all = tt
all_digits (byte ∷ text) all = let parts = both (is_hexadecimal byte) (list_all is_hexadecimal text) all in (ltb-true _ _ parts.0, all_digits text parts.1)

pub fits : (text : List ℕ) → list_all is_hexadecimal text ≡ true → length text ≤ 16 → digits_value 16 text % 2 ^ 64 ≡ digits_value 16 text
fits text all few =
    let below : digits_value 16 text < 16 ^ length text = digits_value-lt 16 text (all_digits text all) in
    let most : 16 ^ length text ≤ 16 ^ 16 = pow-le-pow_right {n = 16} (omega arith) few in
    omega (arith, below, most)

pub address_read : (text : List ℕ) (address count : ℕ) → count ≡ prefix_len is_hexadecimal text → address ≡ digits_value 16 (take count text) % 2 ^ 64 → 0 < count → count ≤ 16 → Some (address, drop count text) ≡ address_at text
unfolding address_at
address_read text address count is value some few =
    let run = prefix_len is_hexadecimal text in
    let long : length (take run text) ≤ 16 = (let cut = length-take run text in omega (arith, cut, is, few)) in
    let whole : address ≡ digits_value 16 (take run text) = value ∙ ap (λ (n : ℕ). digits_value 16 (take n text) % 2 ^ 64) is ∙ fits (take run text) (run_all is_hexadecimal text) long in
    let positive : ltb 0 run ≡ true = lt-ltb 0 run (omega (arith, is, some)) in
    let within : leb run 16 ≡ true = le-leb run 16 (omega (arith, is, few)) in
    ap (λ (n : ℕ). Some (n, drop count text)) whole ∙ ap (λ (n : ℕ). Some (digits_value 16 (take run text), drop n text)) is ∙ sym (rw (positive, within) refl)

-- the number that digits write after others
after_append : (n : ℕ) (front behind : List ℕ) → digits_value_after 16 n (front ++ behind) ≡ digits_value_after 16 (digits_value_after 16 n front) behind
after_append n [] behind = refl
after_append n (d ∷ front) behind = after_append (n * 16 + digit_value d) front behind

value_after : (n : ℕ) (digits : List ℕ) → digits_value_after 16 n digits ≡ n * 16 ^ length digits + digits_value 16 digits
value_after n [] = omega arith
value_after n (d ∷ digits) =
    let v = digit_value d in
    let p = 16 ^ length digits in
    let alone : digits_value 16 (d ∷ digits) ≡ digits_value_after 16 v digits = ap (λ (m : ℕ). digits_value_after 16 m digits) (omega arith) in
    let more : n * 16 ^ suc (length digits) ≡ n * p * 16 = ap (λ (m : ℕ). n * m) (pow-suc 16 (length digits)) ∙ sym (mul_assoc n p 16) in
    omega (arith, value_after (n * 16 + v) digits, value_after v digits, alone, more, add-mul (n * 16) v p, mul_right_comm n 16 p)

-- two halves are an address
both_halves : (text : List ℕ) (high low : ℕ) → 16 ≤ length text → IsHalf (take 8 text) high → IsHalf (take 8 (drop 8 text)) low → (list_all is_hexadecimal (take 16 text) ≡ true) × (digits_value 16 (take 16 text) ≡ high * 2 ^ 32 + low)
both_halves text high low long first second =
    let whole : take 16 text ≡ take 8 text ++ take 8 (drop 8 text) = take-add 8 8 text in
    let eight : length (take 8 (drop 8 text)) ≡ 8 = omega (arith, length-take 8 (drop 8 text), length-drop 8 text, long) in
    let value : digits_value 16 (take 16 text) ≡ digits_value 16 (take 8 text) * 2 ^ 32 + digits_value 16 (take 8 (drop 8 text)) =
    ap (digits_value 16) whole
    ∙ after_append 0 (take 8 text) (take 8 (drop 8 text))
    ∙ value_after (digits_value 16 (take 8 text)) (take 8 (drop 8 text))
    ∙ ap (λ (n : ℕ). digits_value 16 (take 8 text) * 16 ^ n + digits_value 16 (take 8 (drop 8 text))) eight in (
      ap (list_all is_hexadecimal) whole ∙ list_all-append is_hexadecimal (take 8 text) (take 8 (drop 8 text)) ∙ rw (first.digit, second.digit) refl,
      omega (arith, value, first.value, second.value),
    )

-- a space after 16 digits ends them
full_count : (text : List ℕ) → 16 < length text → get_or text 16 0 ≡ 32 → list_all is_hexadecimal (take 16 text) ≡ true → prefix_len is_hexadecimal text ≡ 16
full_count text inside space all =
    let here : is_hexadecimal (get_or text 16 0) ≡ false = subst (λ (b : ℕ). is_hexadecimal b ≡ false) (sym space) refl in
    let outside : BeginsOutside is_hexadecimal (get_or text 16 0 ∷ drop (16 + 1) text) = here in
    run_len text 16 (omega (arith, inside)) all (subst (BeginsOutside is_hexadecimal) (sym (at_drop_more (λ (l : List ℕ). l) text 16 0 inside)) outside)

pub full_is : (text front behind rest : List ℕ) (high low : ℕ) → 16 < length text → get_or text 16 0 ≡ 32 → front ≡ take 8 text → behind ≡ take 8 (drop 8 text) → rest ≡ drop 16 text → IsHalf front high → IsHalf behind low → Some (high * 4294967296 % 18446744073709551616 + low, rest) ≡ address_at text
full_is text front behind rest high low inside space front_is behind_is rest_is first second =
    let halves = both_halves text high low (omega (arith, inside)) (subst (λ (l : List ℕ). IsHalf l high) front_is first) (subst (λ (l : List ℕ). IsHalf l low) behind_is second) in
    let joined : high * 4294967296 % 18446744073709551616 + low ≡ high * 2 ^ 32 + low = omega (arith, first.fits) in
    ap (λ (n : ℕ). Some (n, rest)) joined
    ∙ ap (λ (l : List ℕ). Some (high * 2 ^ 32 + low, l)) rest_is
    ∙ address_read text (high * 2 ^ 32 + low) 16 (sym (full_count text inside space halves.0)) (omega (arith, halves.1, first.fits, second.fits)) (omega arith) (omega arith)

-- the low bits of a number with a further digit
pub step : (whole digit : ℕ) → ((whole % 2 ^ 64 * 16) % 2 ^ 64 + digit) % 2 ^ 64 ≡ (whole * 16 + digit) % 2 ^ 64
step whole digit = omega arith

-- The table is held against the digits' values at each byte, by computing.
abbrev pub digit_row : ℕ → Bool
digit_row byte = leb (2 ^ 32) (get_or DIGITS byte 0) || (eqb (get_or DIGITS byte 0) (digit_value byte) && ltb (get_or DIGITS byte 0) 16)

abbrev pub none_row : ℕ → Bool
none_row byte = ltb (get_or DIGITS byte 0) (2 ^ 32) || leb 16 (digit_value byte)

abbrev pub most_row : ℕ → Bool
most_row byte = leb (get_or DIGITS byte 0) (2 ^ 32)

pub is_digit_of : (byte : ℕ) → byte < 256 → get_or DIGITS byte 0 < 2 ^ 32 → (get_or DIGITS byte 0 ≡ digit_value byte) × (get_or DIGITS byte 0 < 16)
is_digit_of byte less few =
    let row : (leb (2 ^ 32) (get_or DIGITS byte 0) || (eqb (get_or DIGITS byte 0) (digit_value byte) && ltb (get_or DIGITS byte 0) 16)) ≡ true = agree_below_at digit_row (λ _. true) 256 byte refl less in
    let not_none : leb (2 ^ 32) (get_or DIGITS byte 0) ≡ false = lt-leb _ _ few in
    let parts = both (eqb (get_or DIGITS byte 0) (digit_value byte)) (ltb (get_or DIGITS byte 0) 16) (rw not_none at row) in
    (eqb-true _ _ parts.0, ltb-true _ _ parts.1)

pub is_none_of : (byte : ℕ) → byte < 256 → 2 ^ 32 ≤ get_or DIGITS byte 0 → 16 ≤ digit_value byte
is_none_of byte less great =
    let row : (ltb (get_or DIGITS byte 0) (2 ^ 32) || leb 16 (digit_value byte)) ≡ true = agree_below_at none_row (λ _. true) 256 byte refl less in
    let is : ltb (get_or DIGITS byte 0) (2 ^ 32) ≡ false = le-ltb _ _ great in
    let most : leb 16 (digit_value byte) ≡ true = rw is at row in
    leb-true 16 (digit_value byte) most

pub most_of : (byte : ℕ) → byte < 256 → get_or DIGITS byte 0 ≤ 2 ^ 32
most_of byte less = leb-true _ _ (agree_below_at most_row (λ _. true) 256 byte refl less)

-- Eight bytes, one after another: all that were read are digits, unless the number is one that no eight digits write.
pub record ReadUpTo (text : List ℕ) (i number : ℕ) : Type 0 where
  pub most : number + 2 ^ 32 ≤ 2 ^ 32 * 16 ^ i
  pub read : number < 2 ^ 32 → (list_all is_hexadecimal (take i text) ≡ true) × (number ≡ digits_value 16 (take i text))

pub fits_more : (text : List ℕ) (i number digit : ℕ) → ReadUpTo text i number → i < 8 → digit ≤ 2 ^ 32 → number * 16 + digit < 2 ^ 64
fits_more text i number digit so_far few most =
    let seven : i ≤ 7 = omega (arith, few) in
    let power : 16 ^ i ≤ 16 ^ 7 = pow-le-pow_right {n = 16} (omega arith) seven in
    omega (arith, so_far.most, power, most)

pub read_more : (text : List ℕ) (i number digit : ℕ) → i < length text → ReadUpTo text i number → digit ≤ 2 ^ 32 → (digit < 2 ^ 32 → (digit ≡ digit_value (get_or text i 0)) × (digit < 16)) → ReadUpTo text (i + 1) (number * 16 + digit)
read_more text i number digit inside so_far most is = record {
  most = (let power : 16 ^ suc i ≡ 16 ^ i * 16 = pow-suc 16 i in let next : 16 ^ (i + 1) ≡ 16 ^ suc i = ap (λ (n : ℕ). 16 ^ n) (omega arith) in omega (arith, so_far.most, power, next, most));
  read = λ few.
      let had = so_far.read (omega (arith, few)) in
      let now = is (omega (arith, few)) in
      (digits_more text i inside had.0 (omega (arith, now.0, now.1)), omega (arith, had.1, now.0, value_more text i inside));
}

-- eight digits that are all f
pub highest_is : (text : List ℕ) → length text ≡ 8 → bytes_eq (codes "ffffffff") (take 8 text) ≡ true → IsHalf text 4294967295
highest_is text eight same =
    let front : codes "ffffffff" ≡ take 8 text = (bytes_eq-Decides (codes "ffffffff") (take 8 text)).0 same in
    let whole : codes "ffffffff" ≡ text = front ∙ take_all 8 text (omega (arith, eight)) in
    subst (λ (l : List ℕ). IsHalf l 4294967295) whole (record { digit = refl; value = refl; fits = omega arith })
