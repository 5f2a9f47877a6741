use Rattle.std.proofs.Common.{sym, ◌∙◌}
use Rattle.std.proofs.lemmas.Bool.{eqb-true, eqb-false}
use Rattle.trace_base.proofs.FieldNumbers.{no_digits, no_number, narrow_is}
use Rattle.trace_base.proofs.field_line.decimal.Goals as goal

pub returns-then-is_empty : goal.returns-then-is_empty
returns-then-is_empty c = sym (no_digits c.args.text.now (eqb-true _ _ (sym c.if-is_empty.ensures)))

pub returns-in_err-number : goal.returns-in_err-number
returns-in_err-number c = c.from_residual.ensures ∙ sym (no_number c.args.text.now c.in_err-number.ensures)

pub returns : goal.returns
returns c = c.narrow.ensures ∙ narrow_is c.args.text.now c.in_ok-number.number (eqb-false _ _ (sym c.if-is_empty.ensures)) c.in_ok-number.ensures
