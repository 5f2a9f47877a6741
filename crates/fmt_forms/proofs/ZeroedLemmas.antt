-- Hexadecimal numbers with zeros before their digits.
use Rattle.std.proofs.Common.{◌≡◌, ℕ, ◌+◌, ◌-◌, ◌<◌, ◌≤◌, ◌^◌, Bool, true, false, List, [], ◌++◌, length, replicate, refl, sym, ap, ◌∙◌, arith, inl, inr, ◌⊎◌}
use Rattle.std.specs.Prelude.{not, ◌&&◌, ◌||◌, ◌==◌, nat_le, Option, None, is_none}
use Rattle.std.proofs.lemmas.Bool.{eqb-true, leb-true, not-true}
use Rattle.fmt_directives.specs.declared.directive.Base.TheVariants.{Hex}
use Rattle.fmt_forms.specs.declared.form.Form.{Form}
use Rattle.fmt_forms.specs.Integers.{integer_text, laid, shown, mark, zeros}
use Rattle.fmt_forms.specs.Plain.{is_zeroed}
use Rattle.fmt_forms.proofs.HexLemmas.{hex, some_digit}
use Rattle.fmt_forms.proofs.LaidLemmas.{laid_bare}
use Rattle.fmt_forms.proofs.PlainLemmas.{and_false, both, none_of}

all_shown : (n : ℕ) (precision : Option ℕ) → precision ≡ None → shown Hex precision n ≡ hex n
all_shown n precision none = rw (none, and_false (n == 0)) refl

no_zeros : (form : Form) (ds : List ℕ) → form.precision ≡ None → 1 ≤ length ds → zeros Hex form ds ≡ 0
no_zeros form ds none some = let enough : 1 - length ds ≡ 0 = omega (arith, some) in rw (none, enough) refl

no_mark : (form : Form) (n : ℕ) → form.alternate ≡ false → mark Hex form false n ≡ []
no_mark form n alternate = rw alternate refl

-- an integer without a precision and a mark is its digits in its width
only_digits : (form : Form) (n : ℕ) → n < 2 ^ 64 → form.precision ≡ None → form.alternate ≡ false → integer_text Hex form false n ≡ laid form [] (hex n)
only_digits form n small none alternate =
    ap (λ (ds : List ℕ). laid form (mark Hex form false n) (replicate (zeros Hex form ds) 48 ++ ds)) (all_shown n form.precision none)
    ∙ ap (λ (z : ℕ). laid form (mark Hex form false n) (replicate z 48 ++ hex n)) (no_zeros form (hex n) none (some_digit n small))
    ∙ ap (λ (m : List ℕ). laid form m (hex n)) (no_mark form n alternate)

bare : (form : Form) (ds : List ℕ) → form.width ≡ 0 → laid form [] ds ≡ replicate (form.width - length ds) 48 ++ ds
bare form ds width = let no : form.width - length ds ≡ 0 = omega (arith, width) in laid_bare form [] ds 0 0 refl refl (omega (arith, width)) ∙ rw no refl

zeroed : (form : Form) (ds : List ℕ) → form.zero ≡ true → form.left ≡ false → form.precision ≡ None → laid form [] ds ≡ replicate (form.width - length ds) 48 ++ ds
zeroed form ds zero left none = let len : 0 + length ds ≡ length ds = omega arith in rw (left, zero, none) (ap (λ (n : ℕ). replicate (form.width - n) 48 ++ ds) len)

either : (x y : Bool) → (x || y) ≡ true → (x ≡ true) ⊎ (y ≡ true)
either true y is = inl refl
either false y is = inr is

filled : (form : Form) (ds : List ℕ) → form.precision ≡ None → ((form.width == 0) || ((form.zero && not form.left) && nat_le form.width 16)) ≡ true → laid form [] ds ≡ replicate (form.width - length ds) 48 ++ ds
filled form ds none is = elim (either (form.width == 0) ((form.zero && not form.left) && nat_le form.width 16) is) as (λ _. laid form [] ds ≡ replicate (form.width - length ds) 48 ++ ds) [
  | inl narrow ↦ bare form ds (eqb-true form.width 0 narrow)
  | inr wide ↦
      let flags = both form.zero (not form.left) (both (form.zero && not form.left) (nat_le form.width 16) wide).0 in
      zeroed form ds flags.0 (not-true form.left flags.1) none
]

pub zeroed_text : (form : Form) (n : ℕ) → n < 2 ^ 64 → is_zeroed form ≡ true → replicate (form.width - length (hex n)) 48 ++ hex n ≡ integer_text Hex form false n
zeroed_text form n small is =
    let all = both (is_none form.precision && not form.alternate) ((form.width == 0) || ((form.zero && not form.left) && nat_le form.width 16)) is in
    let unmarked = both (is_none form.precision) (not form.alternate) all.0 in
    let none = none_of form.precision unmarked.0 in
    sym (only_digits form n small none (not-true form.alternate unmarked.1) ∙ filled form (hex n) none all.1)

pub few_zeros : (form : Form) → is_zeroed form ≡ true → form.width ≤ 16
few_zeros form is =
    let all = both (is_none form.precision && not form.alternate) ((form.width == 0) || ((form.zero && not form.left) && nat_le form.width 16)) is in
    elim (either (form.width == 0) ((form.zero && not form.left) && nat_le form.width 16) all.1) as (λ _. form.width ≤ 16) [
      | inl narrow ↦ omega (arith, eqb-true form.width 0 narrow)
      | inr wide ↦ leb-true form.width 16 (both (form.zero && not form.left) (nat_le form.width 16) wide).1
    ]
