-- The digits of pids.
use Rattle.std.proofs.Common.{◌≡◌, ℕ, ◌+◌, ◌-◌, ◌/◌, ◌%◌, ◌<◌, ◌≤◌, List, [], ◌∷◌, ◌++◌, length, take, drop, replicate, refl, sym, ap, ◌∙◌, append_assoc, append-nil, length-append, arith}
use Rattle.std.specs.Prelude.{codes}
use Rattle.std.specs.Fmt.{decimal}
use Rattle.std.proofs.lemmas.Fmt.{decimal_digit}
use Rattle.symbols.specs.Maps.{unnamed}
use Rattle.line_columns.specs.Columns.{left, right, zeros}
use Rattle.line_columns.proofs.Lengths.{no_spaces}
use Rattle.line_columns.proofs.ZeroFills as fills
use Rattle.line_fronts.proofs.UsualFronts as usual

abbrev pair : ℕ → List ℕ
pair n = zeros 2 (decimal n)

pair_length : (n : ℕ) → n < 100 → length (pair n) ≡ 2
pair_length n small = ap length (usual.filled n small)

-- a number by its digits
is_two : (n : ℕ) → 10 ≤ n → n < 100 → decimal n ≡ pair n
is_two n le small = usual.two_digits n le small ∙ sym (usual.filled n small)

is_three : (n : ℕ) → 100 ≤ n → n < 1000 → decimal n ≡ (48 + n / 100) ∷ pair (n % 100)
is_three n le small =
    usual.by_hundreds n le (omega (arith, small)) ∙ ap (λ (l : List ℕ). l ++ pair (n % 100)) (decimal_digit (n / 100) (omega (arith, small)))

is_four : (n : ℕ) → 1000 ≤ n → n < 10000 → decimal n ≡ pair (n / 100) ++ pair (n % 100)
is_four n le small =
    usual.by_hundreds n (omega (arith, le)) (omega (arith, small)) ∙ ap (λ (l : List ℕ). l ++ pair (n % 100)) (is_two (n / 100) (omega (arith, le)) (omega (arith, small)))

is_five : (n : ℕ) → 10000 ≤ n → n < 100000 → decimal n ≡ (48 + n / 100 / 100) ∷ (pair (n / 100 % 100) ++ pair (n % 100))
is_five n le small =
    usual.by_hundreds n (omega (arith, le)) (omega (arith, small)) ∙ ap (λ (l : List ℕ). l ++ pair (n % 100)) (is_three (n / 100) (omega (arith, le)) (omega (arith, small)))

-- at the left of its column
at_left : (n : ℕ) (digits more : List ℕ) (count : ℕ) → decimal n ≡ digits → length digits ≡ count → digits ++ (replicate (5 - count) 32 ++ more) ≡ left 5 (decimal n) ++ more
at_left n digits more count is long =
    sym (append_assoc digits (replicate (5 - count) 32) more)
    ∙ ap (λ (k : ℕ). (digits ++ replicate (5 - k) 32) ++ more) (sym long)
    ∙ ap (λ (l : List ℕ). left 5 l ++ more) (sym is)

pub one_digit : (n : ℕ) (more : List ℕ) → n < 10 → (48 + n) ∷ (codes "    " ++ more) ≡ left 5 (decimal n) ++ more
one_digit n more small = at_left n ((48 + n) ∷ []) more 1 (decimal_digit n small) refl

pub two_digits : (n : ℕ) (more : List ℕ) → 10 ≤ n → n < 100 → pair n ++ (codes "   " ++ more) ≡ left 5 (decimal n) ++ more
two_digits n more le small = at_left n (pair n) more 2 (is_two n le small) (pair_length n small)

pub three_digits : (n : ℕ) (more : List ℕ) → 100 ≤ n → n < 1000 → (48 + n / 100) ∷ (pair (n % 100) ++ (codes "  " ++ more)) ≡ left 5 (decimal n) ++ more
three_digits n more le small =
    let long : length ((48 + n / 100) ∷ pair (n % 100)) ≡ 3 = omega (arith, pair_length (n % 100) (omega arith)) in
    at_left n ((48 + n / 100) ∷ pair (n % 100)) more 3 (is_three n le small) long

pub four_digits : (n : ℕ) (more : List ℕ) → 1000 ≤ n → n < 10000 → pair (n / 100) ++ (pair (n % 100) ++ (codes " " ++ more)) ≡ left 5 (decimal n) ++ more
four_digits n more le small =
    let high : List ℕ = pair (n / 100) in
    let low : List ℕ = pair (n % 100) in
    let long : length (high ++ low) ≡ 4 = omega (arith, length-append high low, pair_length (n / 100) (omega (arith, small)), pair_length (n % 100) (omega arith)) in
    sym (append_assoc high low (codes " " ++ more)) ∙ at_left n (high ++ low) more 4 (is_four n le small) long

pub five_digits : (n : ℕ) (more : List ℕ) → 10000 ≤ n → n < 100000
    → (48 + n / 100 / 100) ∷ (pair (n / 100 % 100) ++ (pair (n % 100) ++ more)) ≡ left 5 (decimal n) ++ more
five_digits n more le small =
    let high : List ℕ = pair (n / 100 % 100) in
    let low : List ℕ = pair (n % 100) in
    let long : length ((48 + n / 100 / 100) ∷ (high ++ low)) ≡ 5 = omega (arith, length-append high low, pair_length (n / 100 % 100) (omega arith), pair_length (n % 100) (omega arith)) in
    ap (λ (l : List ℕ). (48 + n / 100 / 100) ∷ l) (sym (append_assoc high low more)) ∙ at_left n ((48 + n / 100 / 100) ∷ (high ++ low)) more 5 (is_five n le small) long

-- wider than its column
six_digits : (n : ℕ) → 100000 ≤ n → n < 1000000 → zeros 6 (decimal n) ≡ decimal n
six_digits n le small =
    let last : List ℕ = pair (n % 100) in
    let high : n / 100 / 100 ≡ n / 10000 = omega arith in
    sym (append-nil (zeros 6 (decimal n)))
    ∙ sym (fills.six_front n [] small)
    ∙ ap (λ (l : List ℕ). pair (n / 10000) ++ (pair (n / 100 % 100) ++ l)) (append-nil last)
    ∙ sym (append_assoc (pair (n / 10000)) (pair (n / 100 % 100)) last)
    ∙ ap (λ (k : ℕ). (pair k ++ pair (n / 100 % 100)) ++ last) (sym high)
    ∙ ap (λ (l : List ℕ). l ++ last) (sym (is_four (n / 100) (omega (arith, le)) (omega (arith, small))))
    ∙ sym (usual.by_hundreds n (omega (arith, le)) (omega (arith, small)))

pub seven_front : (n : ℕ) (more : List ℕ) → 1000000 ≤ n → n < 10000000
    → decimal (n / 10000) ++ (pair (n % 10000 / 100) ++ (pair (n % 10000 % 100) ++ more)) ≡ decimal n ++ more
seven_front n more le small =
    let high : n / 10000 ≡ n / 100 / 100 = omega arith in
    let middle : n % 10000 / 100 ≡ n / 100 % 100 = omega arith in
    let last : n % 10000 % 100 ≡ n % 100 = omega arith in
    ap (λ (k : ℕ). decimal k ++ (pair (n % 10000 / 100) ++ (pair (n % 10000 % 100) ++ more))) high
    ∙ ap (λ (k : ℕ). decimal (n / 100 / 100) ++ (pair k ++ (pair (n % 10000 % 100) ++ more))) middle
    ∙ ap (λ (k : ℕ). decimal (n / 100 / 100) ++ (pair (n / 100 % 100) ++ (pair k ++ more))) last
    ∙ sym (append_assoc (decimal (n / 100 / 100)) (pair (n / 100 % 100)) (pair (n % 100) ++ more))
    ∙ ap (λ (l : List ℕ). l ++ (pair (n % 100) ++ more)) (sym (usual.by_hundreds (n / 100) (omega (arith, le)) (omega (arith, small))))
    ∙ sym (append_assoc (decimal (n / 100)) (pair (n % 100)) more)
    ∙ ap (λ (l : List ℕ). l ++ more) (sym (usual.by_hundreds n (omega (arith, le)) (omega (arith, small))))

-- three digits in their column
pub in_column : (n : ℕ) (column : List ℕ) → 100 ≤ n → n < 1000 → column ≡ zeros 3 (decimal n) ++ codes "]" → take 3 column ≡ decimal n
in_column n column le small is =
    let digits : decimal n ≡ (48 + n / 100) ∷ (48 + n % 100 / 10) ∷ (48 + n % 100 % 10) ∷ [] =
    is_three n le small ∙ ap (λ (l : List ℕ). (48 + n / 100) ∷ l) (usual.filled (n % 100) (omega arith)) in
    ap (take 3) is ∙ ap (λ (l : List ℕ). take 3 (zeros 3 l ++ codes "]")) digits ∙ sym digits

-- all of a task without a name
pub narrow : (n : ℕ) (text with_pid old : List ℕ) → text ≡ codes "           <...>-" ++ drop 17 with_pid → drop 17 with_pid ≡ left 5 (decimal n) ++ drop 22 old
    → text ≡ (right 16 unnamed ++ codes "-") ++ (left 5 (decimal n) ++ drop 22 old)
narrow n text with_pid old name pid = name ∙ ap (λ (l : List ℕ). codes "           <...>-" ++ l) pid

pub wide : (n : ℕ) (text with_pid old : List ℕ) → 100000 ≤ n → n < 1000000 → text ≡ codes "          <...>-" ++ drop 16 with_pid → drop 16 with_pid ≡ zeros 6 (decimal n) ++ drop 22 old
    → 32 ∷ text ≡ (right 16 unnamed ++ codes "-") ++ (left 5 (decimal n) ++ drop 22 old)
wide n text with_pid old le small name pid =
    ap (λ (l : List ℕ). 32 ∷ l) (name ∙ ap (λ (l : List ℕ). codes "          <...>-" ++ l) pid)
    ∙ ap (λ (l : List ℕ). codes "           <...>-" ++ (l ++ drop 22 old)) (six_digits n le small ∙ no_spaces n le (omega (arith, small)))

pub wider : (n : ℕ) (text with_pid old : List ℕ) → 1000000 ≤ n → n < 10000000 → text ≡ codes "         <...>-" ++ drop 15 with_pid
    → drop 15 with_pid ≡ decimal n ++ drop 22 old
    → 32 ∷ 32 ∷ text ≡ (right 16 unnamed ++ codes "-") ++ (left 5 (decimal n) ++ drop 22 old)
wider n text with_pid old le small name pid =
    ap (λ (l : List ℕ). 32 ∷ 32 ∷ l) (name ∙ ap (λ (l : List ℕ). codes "         <...>-" ++ l) pid)
    ∙ ap (λ (l : List ℕ). codes "           <...>-" ++ (l ++ drop 22 old)) (no_spaces n (omega (arith, le)) (omega (arith, small)))
