use Rattle.std.proofs.Common.{get_or, sym, ◌∙◌}
use Rattle.fmt_lexer.proofs.Closing.{Passes, passes, from_backslash, from_byte, at_mark, at_end, from_start}
use Rattle.fmt_lexer.proofs.quoted.text_len.Goals as goal
use Rattle.fmt_lexer.proofs.quoted.text_len.Goals.{then-escaped, else-escaped+else-byte-eq34}

pub loop-i-init : goal.loop-i-init
loop-i-init c = from_start c.args.after.now

pub returns-then-byte-eq34-clause-value : goal.returns-then-byte-eq34-clause-value
returns-then-byte-eq34-clause-value c =
    sym (at_mark c.args.after.now c.loop-i.i c.loop-i.escaped c.loop-i-test.true c.if-escaped.false c.if-byte-eq34.true) ∙ c.loop-i.invariant

pub loop-i-preserved : goal.loop-i-preserved
loop-i-preserved c =
    let step : Passes c.loop-i.escaped (get_or c.args.after.now c.loop-i.i 0) c.if-escaped.escaped = elim c.if-escaped.branch [
      | then-escaped w ↦ from_backslash _ _ _ w.if-escaped.true w.escaped-is
      | else-escaped+else-byte-eq34 w ↦ from_byte _ _ _ w.if-escaped.false w.if-byte-eq34.false w.escaped-is
    ] in
    sym (passes c.args.after.now c.loop-i.i c.loop-i.escaped c.if-escaped.escaped c.loop-i-test.true step) ∙ c.loop-i.invariant

pub returns-clause-value : goal.returns-clause-value
returns-clause-value c = sym (at_end c.args.after.now c.loop-i.i c.loop-i.escaped c.loop-i-test.false) ∙ c.loop-i.invariant
