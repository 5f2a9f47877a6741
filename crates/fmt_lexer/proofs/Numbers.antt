-- Numbers: the parts that are computed of one are those that the relation names.
use Rattle.std.proofs.Common.{◌≡◌, ◌↔◌, ℕ, ◌^◌, ◌<◌, Bool, true, false, ◌&&◌, eqb, ltb, List, [], ◌∷◌, ◌++◌, length, take, drop, get_or, Some, refl, sym, ap, subst, ◌∙◌, inl, inr, arith}
use Rattle.std.specs.List.{AllPass}
use Rattle.std.specs.Char.{is_digit}
use Rattle.std.specs.Str.Parse.{digits_value}
use Rattle.std.proofs.lemmas.Bool.{cases_Bool, eqb-true, eqb-false, ltb-true, lt-ltb, ne_eqb, and_parts, or_left, or_right}
use Rattle.std.proofs.lemmas.List.{take_at, drop_at, take-append-drop}
use Rattle.fmt_lexer.specs.declared.number.Base.{Base}
use Rattle.fmt_lexer.specs.declared.number.Base.TheVariants.{Decimal, Hexadecimal, Octal}
use Rattle.fmt_lexer.specs.Number.{radix_of, prefix_of, HasDigits, IsSuffix, IsNumber, unsigned_first, unsigned_last, signed}
use Rattle.fmt_lexer.specs.Reading.{split_prefix, has_digits, digits_len, is_suffix, parts_behind, number_parts}
use Rattle.std.proofs.lemmas.Option.{cond_some, same_Some}
use Rattle.fmt_lexer.proofs.Runs.{run_passes, run_exact}
use Rattle.fmt_lexer.proofs.Suffixes.{suffix_sound, suffix_complete, in_suffix, in_suffix_is}

-- the prefix of a number, seen from both sides
pub data SplitsAs : List ℕ → Base → List ℕ → Type 0 where
  hexadecimal : (rest : List ℕ) → SplitsAs (48 ∷ 120 ∷ rest) Hexadecimal rest
  octal : (rest : List ℕ) → (get_or rest 0 0 ≡ 120 → ⊥) → SplitsAs (48 ∷ rest) Octal rest
  decimal : (rest : List ℕ) → (get_or rest 0 0 ≡ 48 → ⊥) → SplitsAs rest Decimal rest

splits : (bytes : List ℕ) → SplitsAs bytes (split_prefix bytes).0 (split_prefix bytes).1
unfolding split_prefix
splits [] = decimal [] (λ e. absurd cc)
splits (b ∷ []) = elim (cases_Bool (eqb b 48)) [
  | inl is0 ↦ rw is0 (subst (λ (n : ℕ). SplitsAs (n ∷ []) Octal []) (sym (eqb-true b 48 is0)) (octal [] (λ e. absurd cc)))
  | inr other ↦ rw other (decimal (b ∷ []) (eqb-false b 48 other))
]
splits (b ∷ c ∷ bytes) = elim (cases_Bool (eqb b 48)) [
  | inl is0 ↦ elim (cases_Bool (eqb c 120)) [
    | inl x ↦ rw (is0, x) (subst (λ (n : ℕ). SplitsAs (n ∷ c ∷ bytes) Hexadecimal bytes) (sym (eqb-true b 48 is0)) (subst (λ (n : ℕ). SplitsAs (48 ∷ n ∷ bytes) Hexadecimal bytes) (sym (eqb-true c 120 x)) (hexadecimal bytes)))
    | inr no_x ↦ rw (is0, no_x) (subst (λ (n : ℕ). SplitsAs (n ∷ c ∷ bytes) Octal (c ∷ bytes)) (sym (eqb-true b 48 is0)) (octal (c ∷ bytes) (eqb-false c 120 no_x)))
  ]
  | inr other ↦ rw other (decimal (b ∷ c ∷ bytes) (eqb-false b 48 other))
]

abbrev pair : Base → List ℕ → Base × List ℕ
pair base rest = (base, rest)

splits_again : (bytes : List ℕ) (base : Base) (rest : List ℕ) → SplitsAs bytes base rest → split_prefix bytes ≡ pair base rest
unfolding split_prefix
splits_again _ _ _ (hexadecimal rest) = refl
splits_again _ _ _ (octal rest no_x) = rw (ne_eqb (get_or rest 0 0) 120 no_x) refl
splits_again _ _ _ (decimal rest no_zero) = rw (ne_eqb (get_or rest 0 0) 48 no_zero) refl

-- the parts after a prefix
record Behind (base : Base) (rest digits suffix : List ℕ) : Type 0 where
  parts : rest ≡ digits ++ suffix
  some : has_digits base digits ≡ true
  each : AllPass (λ b. is_digit b (radix_of base)) digits
  suffix_is : IsSuffix suffix
  fits : digits_value (radix_of base) digits < 2 ^ 64

abbrev pub parts_of : Base → List ℕ → List ℕ → Base × List ℕ × List ℕ
parts_of base digits suffix = (base, digits, suffix)

abbrev passes : Base → List ℕ → List ℕ → Bool
passes base digits suffix = (has_digits base digits && ltb (digits_value (radix_of base) digits) (2 ^ 64)) && is_suffix suffix

parts_take : (base : Base) (rest : List ℕ) (b : Base) (digits suffix : List ℕ) → parts_behind base rest ≡ Some (parts_of b digits suffix) → (base ≡ b) × Behind base rest digits suffix
unfolding parts_behind
parts_take base rest b digits suffix h =
    let n : ℕ = digits_len base rest in
    let yes = cond_some (passes base (take n rest) (drop n rest)) (parts_of base (take n rest) (drop n rest)) (parts_of b digits suffix) h in
    let d : take n rest ≡ digits = ap (λ (p : Base × List ℕ × List ℕ). p.1) yes.1 in
    let s : drop n rest ≡ suffix = ap (λ (p : Base × List ℕ × List ℕ). p.2) yes.1 in
    let tests = and_parts (has_digits base (take n rest) && ltb (digits_value (radix_of base) (take n rest)) (2 ^ 64)) (is_suffix (drop n rest)) yes.0 in
    let front = and_parts (has_digits base (take n rest)) (ltb (digits_value (radix_of base) (take n rest)) (2 ^ 64)) tests.0 in (
      ap (λ (p : Base × List ℕ × List ℕ). p.0) yes.1,
      record {
        parts = sym (take-append-drop n rest) ∙ ap (λ (t : List ℕ). t ++ drop n rest) d ∙ ap (λ (t : List ℕ). digits ++ t) s;
        some = ap (has_digits base) (sym d) ∙ front.0;
        each = subst (AllPass (λ b. is_digit b (radix_of base))) d (run_passes (λ b. is_digit b (radix_of base)) rest);
        suffix_is = subst IsSuffix s (suffix_sound (drop n rest) tests.1);
        fits = subst (λ (t : List ℕ). digits_value (radix_of base) t < 2 ^ 64) d (ltb-true _ _ front.1);
      },
    )

suffix_first : (s : List ℕ) → IsSuffix s → 0 < length s → in_suffix (get_or s 0 0) ≡ true
suffix_first _ (unsigned_first u longs h a) some = or_left _ _ h
suffix_first _ (unsigned_last [] u a h) some = or_left _ _ h
suffix_first _ (unsigned_last (l ∷ longs) u a h) some = or_right _ _ (a.each 0 0 (omega arith))
suffix_first _ (signed [] a) some = absurd (omega arith)
suffix_first _ (signed (l ∷ longs) a) some = or_right _ _ (a.each 0 0 (omega arith))

no_digit : (base : Base) (b : ℕ) → in_suffix b ≡ true → is_digit b (radix_of base) ≡ false
no_digit Decimal b h = in_suffix_is b (λ c. is_digit c 10 ≡ false) refl refl refl refl h
no_digit Hexadecimal b h = in_suffix_is b (λ c. is_digit c 16 ≡ false) refl refl refl refl h
no_digit Octal b h = in_suffix_is b (λ c. is_digit c 8 ≡ false) refl refl refl refl h

parts_again : (base : Base) (digits suffix : List ℕ) → has_digits base digits ≡ true → AllPass (λ b. is_digit b (radix_of base)) digits → IsSuffix suffix → digits_value (radix_of base) digits < 2 ^ 64
    → parts_behind base (digits ++ suffix) ≡ Some (parts_of base digits suffix)
unfolding parts_behind
parts_again base digits suffix some each suffix_is fits =
    let n : digits_len base (digits ++ suffix) ≡ length digits = run_exact (λ b. is_digit b (radix_of base)) digits suffix each (λ more. no_digit base (get_or suffix 0 0) (suffix_first suffix suffix_is more)) in
    let d : take (digits_len base (digits ++ suffix)) (digits ++ suffix) ≡ digits = ap (λ (k : ℕ). take k (digits ++ suffix)) n ∙ take_at digits suffix _ refl in
    let s : drop (digits_len base (digits ++ suffix)) (digits ++ suffix) ≡ suffix = ap (λ (k : ℕ). drop k (digits ++ suffix)) n ∙ drop_at digits suffix _ refl in
    rw (d, s, some, lt-ltb _ _ fits, suffix_complete suffix suffix_is) refl

has_digits_from : (base : Base) (digits : List ℕ) → HasDigits base digits → has_digits base digits ≡ true
has_digits_from Decimal digits h = lt-ltb _ _ h.0
has_digits_from Hexadecimal digits h = lt-ltb _ _ h
has_digits_from Octal digits h = refl

no_x : (digits suffix : List ℕ) → AllPass (λ b. is_digit b 8) digits → IsSuffix suffix → get_or (digits ++ suffix) 0 0 ≡ 120 → ⊥
no_x (d ∷ digits) suffix each s e = let p : is_digit d 8 ≡ true = each 0 0 (omega arith) in let q : is_digit 120 8 ≡ true = ap (λ b. is_digit b 8) (sym e) ∙ p in absurd cc
no_x [] [] each s e = absurd cc
no_x [] (b ∷ suffix) each s e = let q : in_suffix 120 ≡ true = ap in_suffix (sym e) ∙ suffix_first (b ∷ suffix) s (omega arith) in absurd cc

splits_so : (base : Base) (digits suffix : List ℕ) → HasDigits base digits → AllPass (λ b. is_digit b (radix_of base)) digits → IsSuffix suffix → SplitsAs (prefix_of base ++ (digits ++ suffix)) base (digits ++ suffix)
splits_so Decimal [] suffix some each s = absurd (omega arith)
splits_so Decimal (d ∷ digits) suffix some each s = decimal (d ∷ (digits ++ suffix)) some.1
splits_so Hexadecimal digits suffix some each s = hexadecimal (digits ++ suffix)
splits_so Octal digits suffix some each s = octal (digits ++ suffix) (no_x digits suffix each s)

-- a number's parts are computed
pub number_complete : (bytes : List ℕ) (base : Base) (digits suffix : List ℕ) → IsNumber bytes base digits suffix → number_parts bytes ≡ Some (parts_of base digits suffix)
unfolding number_parts
number_complete bytes base digits suffix h =
    let split : split_prefix bytes ≡ pair base (digits ++ suffix) = ap split_prefix h.whole ∙ splits_again _ _ _ (splits_so base digits suffix h.some h.each h.suffix_is) in
    ap (λ (p : Base × List ℕ). parts_behind p.0 p.1) split ∙ parts_again base digits suffix (has_digits_from base digits h.some) h.each h.suffix_is h.fits

has_digits_so : (bytes : List ℕ) (base : Base) (rest digits suffix : List ℕ) → SplitsAs bytes base rest → rest ≡ digits ++ suffix → has_digits base digits ≡ true → HasDigits base digits
has_digits_so _ _ _ digits suffix (hexadecimal rest) parts some = ltb-true _ _ some
has_digits_so _ _ _ digits suffix (octal rest none) parts some = tt
has_digits_so _ _ _ [] suffix (decimal rest no_zero) parts some = absurd cc
has_digits_so _ _ _ (d ∷ digits) suffix (decimal rest no_zero) parts some = (omega arith, λ e. no_zero (ap (λ (t : List ℕ). get_or t 0 0) parts ∙ e))

whole_so : (bytes : List ℕ) (base : Base) (rest : List ℕ) → SplitsAs bytes base rest → bytes ≡ prefix_of base ++ rest
whole_so _ _ _ (hexadecimal rest) = refl
whole_so _ _ _ (octal rest none) = refl
whole_so _ _ _ (decimal rest none) = refl

number_from : (bytes : List ℕ) (base : Base) (rest digits suffix : List ℕ) → SplitsAs bytes base rest → Behind base rest digits suffix → IsNumber bytes base digits suffix
number_from bytes base rest digits suffix s b = record {
  whole = whole_so bytes base rest s ∙ ap (λ (t : List ℕ). prefix_of base ++ t) b.parts;
  some = has_digits_so bytes base rest digits suffix s b.parts b.some;
  each = b.each;
  suffix_is = b.suffix_is;
  fits = b.fits;
}

-- what is computed is a number with these parts
pub number_sound : (bytes : List ℕ) (base : Base) (digits suffix : List ℕ) → number_parts bytes ≡ Some (parts_of base digits suffix) → IsNumber bytes base digits suffix
unfolding number_parts
number_sound bytes base digits suffix h =
    let t = parts_take (split_prefix bytes).0 (split_prefix bytes).1 base digits suffix h in
    let n : IsNumber bytes (split_prefix bytes).0 digits suffix = number_from bytes _ _ digits suffix (splits bytes) t.1 in
    subst (λ (b : Base). IsNumber bytes b digits suffix) t.0 n

-- a number has one division
pub same_parts : (bytes : List ℕ) (a b : Base) (d e s t : List ℕ) → IsNumber bytes a d s → IsNumber bytes b e t → (a ≡ b) × (d ≡ e) × (s ≡ t)
same_parts bytes a b d e s t m n =
    let same : parts_of a d s ≡ parts_of b e t = same_Some _ _ (sym (number_complete bytes a d s m) ∙ number_complete bytes b e t n) in
    (ap (λ (p : Base × List ℕ × List ℕ). p.0) same, ap (λ (p : Base × List ℕ × List ℕ). p.1) same, ap (λ (p : Base × List ℕ × List ℕ). p.2) same)

pub computed_parts : (bytes : List ℕ) (base : Base) (digits suffix : List ℕ) → (number_parts bytes ≡ Some (parts_of base digits suffix)) ↔ IsNumber bytes base digits suffix
computed_parts bytes base digits suffix = (number_sound bytes base digits suffix, number_complete bytes base digits suffix)
