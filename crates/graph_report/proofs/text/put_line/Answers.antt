use Rattle.std.proofs.Common.{rules, false, sym, ◌∙◌}
use Rattle.trace_base.specs.TailView.{held}
use Rattle.report_print.proofs.LineLemmas.{line_is, length_is}
use Rattle.graph_report.specs.CallText.{call_text, call_line, is_silent}
use Rattle.graph_report.proofs.LineEnds.{text_end, line_told, length_told}
use Rattle.graph_report.proofs.text.put_line.Goals as goal

pub returns-clause-line : goal.returns-clause-line
unfolding call_line
returns-clause-line c = line_told (held c.close.new.line) (held c.args.into.now).room (is_silent c.args.call.now) (call_text c.args.context.now c.args.call.now)
    (search rules)
    (line_is (held c.put_text.new.into) (held c.close.new.line) (held c.args.into.now) (call_text c.args.context.now c.args.call.now) false
    c.requires.empty c.put_text.ensures.value (λ short. sym (text_end c.args.context.now c.args.call.now)) c.close.ensures.value)

pub returns-clause-length : goal.returns-clause-length
unfolding call_line
returns-clause-length c = length_told c.close.result (is_silent c.args.call.now) (call_text c.args.context.now c.args.call.now)
    (search rules)
    (c.close.ensures.length ∙ length_is (held c.close.new.line) (held c.args.into.now).room (call_text c.args.context.now c.args.call.now)
    (line_is (held c.put_text.new.into) (held c.close.new.line) (held c.args.into.now) (call_text c.args.context.now c.args.call.now) false
    c.requires.empty c.put_text.ensures.value (λ short. sym (text_end c.args.context.now c.args.call.now)) c.close.ensures.value))
