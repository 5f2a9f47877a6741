use Rattle.std.proofs.Common.{rules, ◌≡◌, ◌≤◌, ℕ, length, take, ap, ◌∙◌, arith}
use Rattle.graph_report.specs.CallText.{call_line}
use Rattle.graph_report.proofs.CallLines.{first_bytes}
use Rattle.graph_report.proofs.LineEnds.{line_most}
use Rattle.graph_report.proofs.putting.line_into.Goals as goal

pub returns-clause-line : goal.returns-clause-line
returns-clause-line c =
    let text = call_line c.args.context.now c.args.call.now in
    let most : length text ≤ 65537 = line_most c.args.context.now c.args.call.now in
    let same : c.into-1.given.0 ≡ c.put_line.new.into.into.now = search rules in
    ap (take c.put_line.result) same ∙ ap (λ (n : ℕ). take n c.put_line.new.into.into.now) c.put_line.ensures.length
    ∙ first_bytes c.put_line.new.into c.new-tail.result text (length c.args.into.now) c.new-tail.ensures.value c.put_line.ensures.line (omega (arith, most)) (omega (arith, most, c.requires.room))
