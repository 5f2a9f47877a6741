-- What is shown as it is: without a width, a precision and a mark.
use Rattle.std.proofs.Common.{◌≡◌, ℕ, ◌-◌, ◌<◌, ◌^◌, Bool, true, false, List, [], ◌++◌, length, replicate, refl, sym, ap, ◌∙◌, arith}
use Rattle.std.specs.Prelude.{not, ◌&&◌, ◌==◌, Option, Some, None, is_none}
use Rattle.std.specs.Fmt.{decimal}
use Rattle.std.proofs.lemmas.Bool.{eqb-true, not-true}
use Rattle.std.proofs.lemmas.Fmt.{decimal_nonempty}
use Rattle.std.proofs.lemmas.List.{append-nil}
use Rattle.fmt_directives.specs.declared.directive.Base.{Base}
use Rattle.fmt_directives.specs.declared.directive.Base.TheVariants.{Signed, Unsigned, Hex, UpperHex, Octal}
use Rattle.fmt_forms.specs.declared.form.Form.{Form}
use Rattle.fmt_forms.specs.Integers.{integer_text, is_decimal, is_signed, laid, shown, sign, zeros}
use Rattle.fmt_forms.specs.Plain.{is_plain, minus}
use Rattle.fmt_forms.specs.Texts.{padded}
use Rattle.fmt_forms.proofs.LaidLemmas.{laid_bare}

pub and_false : (b : Bool) → (b && false) ≡ false
and_false true = refl
and_false false = refl

all_shown : (n : ℕ) (precision : Option ℕ) → precision ≡ None → shown Signed precision n ≡ decimal n
all_shown n precision none = rw (none, and_false (n == 0)) refl

all_shown_unsigned : (n : ℕ) (precision : Option ℕ) → precision ≡ None → shown Unsigned precision n ≡ decimal n
all_shown_unsigned n precision none = rw (none, and_false (n == 0)) refl

no_zeros : (form : Form) (ds : List ℕ) → form.precision ≡ None → 0 < length ds → zeros Signed form ds ≡ 0
no_zeros form ds none some = let enough : 1 - length ds ≡ 0 = omega (arith, some) in rw (none, enough) refl

no_zeros_unsigned : (form : Form) (ds : List ℕ) → form.precision ≡ None → 0 < length ds → zeros Unsigned form ds ≡ 0
no_zeros_unsigned form ds none some = let enough : 1 - length ds ≡ 0 = omega (arith, some) in rw (none, enough) refl

only_minus : (form : Form) (negative : Bool) → form.plus ≡ false → form.space ≡ false → sign form negative ≡ minus negative
only_minus form true plus space = refl
only_minus form false plus space = rw (plus, space) refl

plain_signed : (form : Form) (negative : Bool) (n : ℕ) → n < 2 ^ 64 → form.width ≡ 0 → form.precision ≡ None → form.plus ≡ false → form.space ≡ false
    → minus negative ++ decimal n ≡ integer_text Signed form negative n
plain_signed form negative n small width none plus space = sym (
    ap (λ (ds : List ℕ). laid form (sign form negative) (replicate (zeros Signed form ds) 48 ++ ds)) (all_shown n form.precision none)
    ∙ ap (λ (z : ℕ). laid form (sign form negative) (replicate z 48 ++ decimal n)) (no_zeros form (decimal n) none (decimal_nonempty n small))
    ∙ ap (λ (mark : List ℕ). laid form mark (replicate 0 48 ++ decimal n)) (only_minus form negative plus space)
    ∙ laid_bare form (minus negative) (decimal n) 0 0 refl refl (omega (arith, width)))

plain_unsigned : (form : Form) (n : ℕ) → n < 2 ^ 64 → form.width ≡ 0 → form.precision ≡ None
    → decimal n ≡ integer_text Unsigned form false n
plain_unsigned form n small width none = sym (
    ap (λ (ds : List ℕ). laid form [] (replicate (zeros Unsigned form ds) 48 ++ ds)) (all_shown_unsigned n form.precision none)
    ∙ ap (λ (z : ℕ). laid form [] (replicate z 48 ++ decimal n)) (no_zeros_unsigned form (decimal n) none (decimal_nonempty n small))
    ∙ laid_bare form [] (decimal n) 0 0 refl refl (omega (arith, width)))

plain_by : (base : Base) (form : Form) (negative : Bool) (n : ℕ) → n < 2 ^ 64 → is_decimal base ≡ true → form.width ≡ 0 → form.precision ≡ None → form.plus ≡ false → form.space ≡ false
    → minus (is_signed base && negative) ++ decimal n ≡ integer_text base form negative n
plain_by Signed form negative n small is width none plus space = plain_signed form negative n small width none plus space
plain_by Unsigned form negative n small is width none plus space = plain_unsigned form n small width none
plain_by Hex form negative n small is width none plus space = absurd cc
plain_by UpperHex form negative n small is width none plus space = absurd cc
plain_by Octal form negative n small is width none plus space = absurd cc

pub both : (x y : Bool) → (x && y) ≡ true → (x ≡ true) × (y ≡ true)
both true y is = (refl, is)
both false y is = absurd cc

pub none_of : (p : Option ℕ) → is_none p ≡ true → p ≡ None
none_of None is = refl
none_of (Some n) is = absurd cc

pub plain : (base : Base) (form : Form) (negative : Bool) (n : ℕ) → n < 2 ^ 64 → is_plain base form ≡ true → minus (is_signed base && negative) ++ decimal n ≡ integer_text base form negative n
plain base form negative n small is =
    let all = both (((is_decimal base && (form.width == 0)) && is_none form.precision) && not form.plus) (not form.space) is in
    let plus = both ((is_decimal base && (form.width == 0)) && is_none form.precision) (not form.plus) all.0 in
    let none = both (is_decimal base && (form.width == 0)) (is_none form.precision) plus.0 in
    let width = both (is_decimal base) (form.width == 0) none.0 in
    plain_by base form negative n small width.0 (eqb-true form.width 0 width.1) (none_of form.precision none.1) (not-true form.plus plus.1) (not-true form.space all.1)

pub padded_bare : (left : Bool) (width : ℕ) (text : List ℕ) → width ≡ 0 → text ≡ padded left width text
unfolding padded
padded_bare true width text none = let no : width - length text ≡ 0 = omega (arith, none) in rw no (sym (append-nil text))
padded_bare false width text none = let no : width - length text ≡ 0 = omega (arith, none) in rw no refl
