use Rattle.std.proofs.Common.{ℕ, ◌+◌, ◌*◌, ◌%◌, ◌^◌, take, ap, sym, ◌∙◌, arith}
use Rattle.std.specs.Str.Parse.{digits_value}
use Rattle.symbols.proofs.Addresses.{run_stops, run_whole, digits_more, value_more, step}
use Rattle.symbols.proofs.digits.first_digits.Goals as goal

pub returns-in_default-clause-count : goal.returns-in_default-clause-count
returns-in_default-clause-count c = run_stops c.args.text.now c.loop-i.i c.loop-i-test.true c.loop-i.invariant.digits c.in_default.ensures.none

pub loop-i-preserved : goal.loop-i-preserved
loop-i-preserved c =
    let text = c.args.text.now in
    let i = c.loop-i.i in
    let before = digits_value 16 (take i text) in
    let digit = c.in-Some.ensures.digit in
    record {
      digits = digits_more text i c.loop-i-test.true c.loop-i.invariant.digits (omega (arith, digit.0, digit.1));
      number_is =
          ap (λ (n : ℕ). (n * 16 % 2 ^ 64 + c.in-Some.digit) % 2 ^ 64) c.loop-i.invariant.number_is
          ∙ step before c.in-Some.digit
          ∙ ap (λ (n : ℕ). (before * 16 + n) % 2 ^ 64) digit.0
          ∙ ap (λ (n : ℕ). n % 2 ^ 64) (sym (value_more text i c.loop-i-test.true));
    }

pub returns-clause-count : goal.returns-clause-count
returns-clause-count c = run_whole c.args.text.now c.loop-i.i c.loop-i-test.false c.loop-i.auto.i-end c.loop-i.invariant.digits
