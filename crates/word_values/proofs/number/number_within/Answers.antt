use Rattle.std.proofs.Common.{sym, ◌∙◌, arith}
use Rattle.std.proofs.lemmas.Bool.{eqb-false}
use Rattle.word_values.proofs.NumberLaws.{no_number, spelled}
use Rattle.word_values.proofs.number.number_within.Goals as goal

pub returns-in_err-number : goal.returns-in_err-number
returns-in_err-number c = c.from_residual.ensures ∙ sym (no_number c.args.least c.args.most c.args.text.now (omega arith) c.in_err-number.ensures)

pub returns : goal.returns
returns c = c.between.ensures ∙ spelled c.args.least c.args.most c.in_ok-number.number c.args.text.now (eqb-false _ _ (sym c.if-is_empty.ensures)) c.in_ok-number.ensures
