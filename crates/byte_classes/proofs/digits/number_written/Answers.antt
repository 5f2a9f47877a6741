use Rattle.std.proofs.Common.{◌≡◌, ℕ, ◌+◌, ◌<◌, take, get_or, subst, sym, ap, ◌∙◌, Some, arith}
use Rattle.std.proofs.lemmas.List.{take_all}
use Rattle.std.specs.Char.{digit_value}
use Rattle.std.specs.Str.Parse.{digits_value}
use Rattle.byte_classes.specs.Digits.{are_digits}
use Rattle.byte_classes.proofs.Written.{no_digit, too_long, all_digits, longer, digits_more}
use Rattle.byte_classes.proofs.digits.number_written.Goals as goal

pub returns-in_err-digit : goal.returns-in_err-digit
returns-in_err-digit c =
    c.from_residual.ensures ∙ sym (no_digit c.args.radix c.args.text.now c.loop-byte.byte-index (omega arith) (subst (λ (b : ℕ). digit_value b < c.args.radix → ⊥) c.from.ensures c.in_err-digit.ensures.value))

pub returns-in_err-number : goal.returns-in_err-number
returns-in_err-number c =
    let text = c.args.text.now in
    let i = c.loop-byte.byte-index in
    let digit : c.in_ok-digit.digit ≡ digit_value (get_or text i 0) = c.in_ok-digit.ensures.value.1 ∙ ap digit_value c.from.ensures in
    let more = longer c.args.radix text i c.loop-byte.number c.in_ok-digit.digit (omega arith) digit c.loop-byte.invariant.number_is in
    c.from_residual-in_err-number.ensures ∙ sym (too_long c.args.radix text (i + 1) _ (omega (arith, c.requires.0)) more c.in_err-number.ensures)

pub loop-byte-preserved : goal.loop-byte-preserved
loop-byte-preserved c =
    let text = c.args.text.now in
    let i = c.loop-byte.byte-index in
    let digit : c.in_ok-digit.digit ≡ digit_value (get_or text i 0) = c.in_ok-digit.ensures.value.1 ∙ ap digit_value c.from.ensures in
    let more = longer c.args.radix text i c.loop-byte.number c.in_ok-digit.digit (omega arith) digit c.loop-byte.invariant.number_is in
    let next = c.in_ok-number.ensures in
    record {
      digits = digits_more c.args.radix text i (omega arith) c.loop-byte.invariant.digits (subst (λ (b : ℕ). digit_value b < c.args.radix) c.from.ensures c.in_ok-digit.ensures.value.0);
      number_is = next.1 ∙ more;
      fits = omega (arith, next.0, next.1);
    }

pub returns : goal.returns
returns c =
    let text = c.args.text.now in
    let all : take c.loop-byte.byte-index text ≡ text = take_all c.loop-byte.byte-index text (omega arith) in
    let number : c.loop-byte.number ≡ digits_value c.args.radix text = c.loop-byte.invariant.number_is ∙ ap (digits_value c.args.radix) all in
    ap Some number ∙ sym (all_digits c.args.radix text (ap (are_digits c.args.radix) (sym all) ∙ c.loop-byte.invariant.digits) (omega (arith, number)))
