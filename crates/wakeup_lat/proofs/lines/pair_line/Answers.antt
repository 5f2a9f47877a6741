use Rattle.std.proofs.Common.{◌≤◌, sym, subst, ◌∙◌, false, ℕ}
use Rattle.trace_base.specs.TailView.{held}
use Rattle.report_print.proofs.LineLength.{closed_short}
use Rattle.report_print.proofs.LineLemmas.{line_is, length_is}
use Rattle.wakeup_lat.specs.Section.{pair_text}
use Rattle.wakeup_lat.proofs.NoNewline.{no_newline}
use Rattle.wakeup_lat.proofs.lines.pair_line.Goals as goal

pub returns-clause-line : goal.returns-clause-line
returns-clause-line c =
    line_is (held c.put_pair.new.into) (held c.close.new.line) (held c.args.into.now) (pair_text c.args.context.now c.args.pair.now) false
    c.requires.empty c.put_pair.ensures.value (λ le. sym (no_newline c.args.context.now c.args.pair.now)) c.close.ensures.value

pub returns-clause-length : goal.returns-clause-length
returns-clause-length c =
    c.close.ensures.length
    ∙ length_is (held c.close.new.line) (held c.args.into.now).room (pair_text c.args.context.now c.args.pair.now)
    (line_is (held c.put_pair.new.into) (held c.close.new.line) (held c.args.into.now) (pair_text c.args.context.now c.args.pair.now) false
    c.requires.empty c.put_pair.ensures.value (λ le. sym (no_newline c.args.context.now c.args.pair.now)) c.close.ensures.value)

pub returns-clause-short : goal.returns-clause-short
returns-clause-short c =
    subst (λ (n : ℕ). n ≤ 65537) (sym (
    c.close.ensures.length
    ∙ length_is (held c.close.new.line) (held c.args.into.now).room (pair_text c.args.context.now c.args.pair.now)
    (line_is (held c.put_pair.new.into) (held c.close.new.line) (held c.args.into.now) (pair_text c.args.context.now c.args.pair.now) false
    c.requires.empty c.put_pair.ensures.value (λ le. sym (no_newline c.args.context.now c.args.pair.now)) c.close.ensures.value)
    )) (closed_short (pair_text c.args.context.now c.args.pair.now))
