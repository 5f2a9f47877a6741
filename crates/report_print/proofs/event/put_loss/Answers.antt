use Rattle.std.proofs.Common.{◌≡◌, ◌∙◌, ◌++◌, ap, rules}
use Rattle.std.specs.Prelude.{codes}
use Rattle.std.specs.Fmt.{decimal}
use Rattle.trace_base.specs.Kept.{put_held}
use Rattle.trace_base.specs.TailView.{held}
use Rattle.report_print.specs.Line.{loss_text}
use Rattle.report_print.proofs.HeldPuts.{three_puts}
use Rattle.report_print.proofs.event.put_loss.Goals as goal

pub returns-in-None-clause-value : goal.returns-in-None-clause-value
unfolding loss_text
returns-in-None-clause-value c =
    let cpu : c.as_bytes.result.now ≡ decimal c.args.cpu = search rules in
    rw c.in-None.is
    (three_puts (held c.args.into.now) (held c.put.new.self) (held c.put-2.new.self) (held c.put-in-None.new.self)
    (codes "CPU:") (decimal c.args.cpu) (codes " [EVENTS DROPPED]")
    c.put.ensures.held (c.put-2.ensures.held ∙ ap (put_held (held c.put.new.self)) cpu) c.put-in-None.ensures.held)

pub returns-in-Some-clause-value : goal.returns-in-Some-clause-value
unfolding loss_text
returns-in-Some-clause-value c =
    let cpu : c.as_bytes.result.now ≡ decimal c.args.cpu = search rules in
    let count : c.as_bytes-in-Some.result.now ≡ decimal c.in-Some.count = search rules in
    rw c.in-Some.is
    (three_puts (held c.args.into.now) (held c.put.new.self) (held c.put-2.new.self) (held c.put-in-Some-3.new.self)
    (codes "CPU:") (decimal c.args.cpu) (codes " [" ++ (decimal c.in-Some.count ++ codes " EVENTS DROPPED]"))
    c.put.ensures.held (c.put-2.ensures.held ∙ ap (put_held (held c.put.new.self)) cpu)
    (three_puts (held c.put-2.new.self) (held c.put-in-Some.new.self) (held c.put-in-Some-2.new.self) (held c.put-in-Some-3.new.self)
    (codes " [") (decimal c.in-Some.count) (codes " EVENTS DROPPED]")
    c.put-in-Some.ensures.held (c.put-in-Some-2.ensures.held ∙ ap (put_held (held c.put-in-Some.new.self)) count) c.put-in-Some-3.ensures.held))
