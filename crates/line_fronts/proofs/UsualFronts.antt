-- The columns of most fronts.
use Rattle.std.proofs.Common.{◌≡◌, ℕ, ◌+◌, ◌-◌, ◌/◌, ◌%◌, ◌^◌, ◌<◌, ◌≤◌, List, [], ◌∷◌, ◌++◌, length, drop, replicate, refl, sym, ap, ◌∙◌, append_assoc, append-nil, length-append, inl, inr, arith}
use Rattle.std.specs.Prelude.{codes}
use Rattle.std.specs.Fmt.{decimal}
use Rattle.std.proofs.lemmas.Bool.{cases_lt}
use Rattle.std.proofs.lemmas.Fmt.{decimal_digit, decimal_step, length-decimal-le}
use Rattle.std.proofs.lemmas.List.{drop_all, replicate-append-replicate}
use Rattle.line_columns.specs.Columns.{right, zeros}
use Rattle.line_columns.proofs.ZeroFills as fills

-- the digits of a number of two
pub two_digits : (n : ℕ) → 10 ≤ n → n < 100 → decimal n ≡ (48 + n / 10) ∷ (48 + n % 10) ∷ []
two_digits n le small = decimal_step n le (omega (arith, small)) ∙ ap (λ (l : List ℕ). l ++ ((48 + n % 10) ∷ [])) (decimal_digit (n / 10) (omega (arith, small)))

pub filled : (n : ℕ) → n < 100 → zeros 2 (decimal n) ≡ (48 + n / 10) ∷ (48 + n % 10) ∷ []
filled n small = elim (cases_lt n 10) as (λ _. zeros 2 (decimal n) ≡ (48 + n / 10) ∷ (48 + n % 10) ∷ []) [
  | inl one ↦
      let none : n / 10 ≡ 0 = omega (arith, one) in
      let same : n % 10 ≡ n = omega (arith, one) in
      rw (none, same, decimal_digit n one) refl
  | inr more ↦ rw (two_digits n more small) refl
]

-- a number of two digits fills its column
pub wide_pair : (n : ℕ) → 10 ≤ n → n < 100 → zeros 2 (decimal n) ≡ right 2 (decimal n)
wide_pair n le small = rw (two_digits n le small) refl

pub narrow_pair : (n : ℕ) (more : List ℕ) → n < 10 → 32 ∷ (48 + n) ∷ more ≡ right 2 (decimal n) ++ more
narrow_pair n more small = rw (decimal_digit n small) refl

pub six_front : (n : ℕ) (more : List ℕ) → n < 1000000
    → zeros 2 (decimal (n / 10000)) ++ (zeros 2 (decimal (n % 10000 / 100)) ++ (zeros 2 (decimal (n % 10000 % 100)) ++ more)) ≡ zeros 6 (decimal n) ++ more
six_front n more small =
    let middle : n % 10000 / 100 ≡ n / 100 % 100 = omega arith in
    let last : n % 10000 % 100 ≡ n % 100 = omega arith in
    let first : List ℕ = zeros 2 (decimal (n / 10000)) in
    ap (λ (k : ℕ). first ++ (zeros 2 (decimal k) ++ (zeros 2 (decimal (n % 10000 % 100)) ++ more))) middle
    ∙ ap (λ (k : ℕ). first ++ (zeros 2 (decimal (n / 100 % 100)) ++ (zeros 2 (decimal k) ++ more))) last
    ∙ fills.six_front n more small

-- spaces in front of a column
spaced : (spaces width : ℕ) (digits : List ℕ) → length digits ≤ width → replicate spaces 32 ++ right width digits ≡ right (spaces + width) digits
spaced spaces width digits le =
    let same : spaces + (width - length digits) ≡ spaces + width - length digits = omega (arith, le) in
    sym (append_assoc (replicate spaces 32) (replicate (width - length digits) 32) digits)
    ∙ ap (λ (l : List ℕ). l ++ digits) (replicate-append-replicate spaces (width - length digits) 32)
    ∙ ap (λ (k : ℕ). replicate k 32 ++ digits) same

wider : (spaces width : ℕ) (digits more : List ℕ) → length digits ≤ width → replicate spaces 32 ++ (right width digits ++ more) ≡ right (spaces + width) digits ++ more
wider spaces width digits more le =
    sym (append_assoc (replicate spaces 32) (right width digits) more) ∙ ap (λ (l : List ℕ). l ++ more) (spaced spaces width digits le)

-- further digits after a column
behind : (width : ℕ) (digits last more : List ℕ) → right width digits ++ (last ++ more) ≡ right (width + length last) (digits ++ last) ++ more
behind width digits last more =
    let same : width - length digits ≡ width + length last - length (digits ++ last) = omega (arith, length-append digits last) in
    sym (append_assoc (right width digits) last more)
    ∙ ap (λ (l : List ℕ). l ++ more)
    (append_assoc (replicate (width - length digits) 32) digits last ∙ ap (λ (k : ℕ). replicate k 32 ++ (digits ++ last)) same)

-- a number by its hundreds
pub by_hundreds : (n : ℕ) → 100 ≤ n → n < 2 ^ 64 → decimal n ≡ decimal (n / 100) ++ zeros 2 (decimal (n % 100))
by_hundreds n le less =
    let front : n / 10 / 10 ≡ n / 100 = omega arith in
    let tens : n / 10 % 10 ≡ n % 100 / 10 = omega arith in
    let ones : n % 10 ≡ n % 100 % 10 = omega arith in
    decimal_step n (omega (arith, le)) less
    ∙ ap (λ (l : List ℕ). l ++ ((48 + n % 10) ∷ [])) (decimal_step (n / 10) (omega (arith, le)) (omega (arith, less)))
    ∙ append_assoc (decimal (n / 10 / 10)) ((48 + n / 10 % 10) ∷ []) ((48 + n % 10) ∷ [])
    ∙ ap (λ (k : ℕ). decimal k ++ ((48 + n / 10 % 10) ∷ (48 + n % 10) ∷ [])) front
    ∙ ap (λ (d : ℕ). decimal (n / 100) ++ ((48 + d) ∷ (48 + n % 10) ∷ [])) tens
    ∙ ap (λ (d : ℕ). decimal (n / 100) ++ ((48 + n % 100 / 10) ∷ (48 + d) ∷ [])) ones
    ∙ ap (λ (l : List ℕ). decimal (n / 100) ++ l) (sym (filled (n % 100) (omega arith)))

hundreds : (width n : ℕ) (more : List ℕ) → 100 ≤ n → n < 2 ^ 64
    → right width (decimal (n / 100)) ++ (zeros 2 (decimal (n % 100)) ++ more) ≡ right (width + 2) (decimal n) ++ more
hundreds width n more le less =
    let last : List ℕ = zeros 2 (decimal (n % 100)) in
    behind width (decimal (n / 100)) last more
    ∙ ap (λ (k : ℕ). right (width + k) (decimal (n / 100) ++ last) ++ more) (ap length (filled (n % 100) (omega arith)))
    ∙ ap (λ (l : List ℕ). right (width + 2) l ++ more) (sym (by_hundreds n le less))

-- the seconds in their column
pub two_places : (n : ℕ) (more : List ℕ) → n < 100 → codes "   " ++ (right 2 (decimal n) ++ more) ≡ right 5 (decimal n) ++ more
two_places n more small = wider 3 2 (decimal n) more (length-decimal-le 2 n (omega arith) (omega (arith, small)) (omega (arith, small)))

pub four_places : (n : ℕ) (more : List ℕ) → 100 ≤ n → n < 10000
    → 32 ∷ (right 2 (decimal (n / 100)) ++ (zeros 2 (decimal (n % 100)) ++ more)) ≡ right 5 (decimal n) ++ more
four_places n more le small =
    wider 1 2 (decimal (n / 100)) (zeros 2 (decimal (n % 100)) ++ more) (length-decimal-le 2 (n / 100) (omega arith) (omega (arith, small)) (omega (arith, small)))
    ∙ hundreds 3 n more le (omega (arith, small))

pub five_places : (n : ℕ) (more : List ℕ) → 10000 ≤ n → n < 100000
    → (48 + n / 100 / 100) ∷ (zeros 2 (decimal (n / 100 % 100)) ++ (zeros 2 (decimal (n % 100)) ++ more)) ≡ right 5 (decimal n) ++ more
five_places n more le small =
    let first : (48 + n / 100 / 100) ∷ [] ≡ right 1 (decimal (n / 100 / 100)) = rw (decimal_digit (n / 100 / 100) (omega (arith, small))) refl in
    let last : List ℕ = zeros 2 (decimal (n % 100)) ++ more in
    ap (λ (l : List ℕ). l ++ (zeros 2 (decimal (n / 100 % 100)) ++ last)) first
    ∙ hundreds 1 (n / 100) last (omega (arith, le)) (omega (arith, small))
    ∙ hundreds 3 n more (omega (arith, le)) (omega (arith, small))

-- what is between brackets
pub in_brackets : (digits more : List ℕ) → codes " [" ++ ((digits ++ codes "]") ++ (codes " " ++ more)) ≡ (codes " [" ++ (digits ++ codes "] ")) ++ more
in_brackets digits more =
    ap (λ (l : List ℕ). codes " [" ++ l) (append_assoc digits (codes "]") (codes " " ++ more) ∙ sym (append_assoc digits (codes "] ") more))

-- the columns of a front that was written from the right
pub joined : (zero label_in colon_in time_in place_in place clock label : List ℕ) → length zero ≡ 65
    → drop 43 label_in ≡ label ++ drop 65 zero → drop 41 colon_in ≡ codes ": " ++ drop 43 label_in → drop 29 time_in ≡ clock ++ drop 41 colon_in
    → drop 22 place_in ≡ place ++ drop 29 time_in
    → drop 22 place_in ≡ (place ++ (clock ++ codes ": ")) ++ label
joined zero label_in colon_in time_in place_in place clock label len at_label at_colon at_time at_place =
    at_place ∙ ap (λ (l : List ℕ). place ++ l) (at_time ∙ ap (λ (l : List ℕ). clock ++ l) (at_colon ∙ ap (λ (l : List ℕ). codes ": " ++ l)
    (at_label ∙ ap (λ (l : List ℕ). label ++ l) (drop_all 65 zero (omega (arith, len))) ∙ append-nil label)))
    ∙ ap (λ (l : List ℕ). place ++ l) (sym (append_assoc clock (codes ": ") label))
    ∙ sym (append_assoc place (clock ++ codes ": ") label)
