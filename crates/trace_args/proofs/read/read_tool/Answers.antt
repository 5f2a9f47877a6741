use Rattle.std.proofs.Common.{drop, length, sym, ap, ◌∙◌}
use Rattle.trace_args.specs.Faults.{late_fault}
use Rattle.trace_args.specs.GivenView.{given_view}
use Rattle.trace_args.specs.Reading.{tool_reading}
use Rattle.trace_args.specs.Settings.{AnyWord, settings}
use Rattle.trace_args.proofs.ReadingLaws.{fault_answer, tool_command, tool_fault, tool_late}
use Rattle.trace_args.proofs.read.read_tool.Goals as goal

pub returns-in_err-given : goal.returns-in_err-given
returns-in_err-given c =
    let words = c.args.words.now in
    let said = settings c.args.tool AnyWord 2 (drop 1 words) in
    let wrong = c.in_err-given.field-0.0 in
    fault_answer (tool_reading c.args.tool (length words) said) c.from_residual.result wrong _ (λ e h. h) c.from_residual.ensures.1 (λ other. tool_fault c.args.tool (length words) said wrong (c.in_err-given.ensures.fault other))

pub returns-in-Some : goal.returns-in-Some
returns-in-Some c = λ _.
    tool_late c.args.tool (length c.args.words.now) _ _ c.in-Some.fault c.in_ok-given.ensures.given c.in_ok-given.ensures.clean (sym c.in-Some.is ∙ c.late_fault.ensures ∙ ap (λ last. late_fault c.args.tool last (given_view c.in_ok-given.given)) c.len.ensures)

pub returns : goal.returns
returns c =
    tool_command c.args.tool (length c.args.words.now) _ _ c.asked.result c.in_ok-given.ensures.given c.in_ok-given.ensures.clean (sym c.in-None.is ∙ c.late_fault.ensures ∙ ap (λ last. late_fault c.args.tool last (given_view c.in_ok-given.given)) c.len.ensures) c.asked.ensures
