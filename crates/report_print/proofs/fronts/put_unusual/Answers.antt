use Rattle.std.proofs.Common.{◌∙◌, List, ℕ, length, ap}
use Rattle.trace_base.specs.Kept.{Held, put_held}
use Rattle.trace_base.specs.TailView.{held}
use Rattle.report_print.specs.Line.{prefix_text}
use Rattle.report_print.proofs.HeldPuts.{put_end}
use Rattle.report_print.proofs.fronts.put_unusual.Goals as goal

pub returns-then-behind-gt-LONGEST_BEHIND-clause-value : goal.returns-then-behind-gt-LONGEST_BEHIND-clause-value
returns-then-behind-gt-LONGEST_BEHIND-clause-value c =
    let given = c.args.context.now in
    let front = c.shown_common-common.ensures c.args.cpu c.args.time in
    c.put.ensures.held
    ∙ ap (λ (h : Held). put_held h c.args.behind.now)
    (c.put_columns-until.ensures.value ∙ put_end (held c.args.into.now) (prefix_text given c.args.cpu c.args.time c.shown_common-common.result) ∙ ap (put_held (held c.args.into.now)) front)

pub returns-then-behind-gt-LONGEST_BEHIND-clause-until : goal.returns-then-behind-gt-LONGEST_BEHIND-clause-until
returns-then-behind-gt-LONGEST_BEHIND-clause-until c = c.put_columns-until.ensures.until ∙ ap length (c.shown_common-common.ensures c.args.cpu c.args.time)

pub returns-clause-value : goal.returns-clause-value
returns-clause-value c =
    c.put_columns.ensures.value
    ∙ ap (λ (l : List ℕ). put_held (put_held (held c.args.into.now) l) c.args.behind.now) (c.shown_common-common.ensures c.args.cpu c.args.time)

pub returns-clause-until : goal.returns-clause-until
returns-clause-until c = c.put_columns.ensures.until ∙ ap length (c.shown_common-common.ensures c.args.cpu c.args.time)
