use Rattle.std.proofs.Common.{Bool, [], ap, ◌∙◌}
use Rattle.std.specs.Prelude.{codes, if◌then◌else◌}
use Rattle.std.specs.List.{list_any}
use Rattle.trace_base.specs.Kept.{put_held}
use Rattle.trace_base.specs.TailView.{held}
use Rattle.report_print.specs.FieldTexts.{is_own, fields_text}
use Rattle.report_print.proofs.FieldPuts.{unread_behind}
use Rattle.report_print.proofs.HeldPuts.{three_puts}
use Rattle.report_print.proofs.fields.put_unread.Goals as goal

pub returns-clause-value : goal.returns-clause-value
returns-clause-value c =
    three_puts (held c.args.into.now) (held c.put.new.self) (held c.put_between.new.into) (held c.put_fields.new.into)
    (codes "[FAILED TO PARSE]") (if list_any is_own c.split_at.result.1.now then codes " " else []) (fields_text c.args.rec.now.order c.args.rec.now.payload.now c.split_at.result.1.now)
    c.put.ensures.held
    (c.put_between.ensures.value ∙ ap (λ (some : Bool). put_held (held c.put.new.self) (if some then codes " " else [])) c.any_own.ensures)
    c.put_fields.ensures.value
    ∙ ap (put_held (held c.args.into.now)) (unread_behind c.args.rec.now.order c.args.rec.now.payload.now c.args.fields.now c.split_at.result.1.now c.args.commons c.split_at.ensures.back c.requires)
