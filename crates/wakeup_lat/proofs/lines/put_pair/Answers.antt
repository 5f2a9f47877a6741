use Rattle.std.proofs.Common.{◌≡◌, ℕ, List, ◌++◌, ap, ◌∙◌, append-nil}
use Rattle.std.specs.Prelude.{codes}
use Rattle.trace_base.specs.Kept.{put_held}
use Rattle.trace_base.specs.TailView.{held}
use Rattle.line_columns.specs.Columns.{duration_text}
use Rattle.report_print.specs.Line.{prefix_text}
use Rattle.wakeup_pairs.specs.Figures.{latency}
use Rattle.wakeup_lat.specs.Section.{pair_text}
use Rattle.wakeup_lat.proofs.ThreePuts.{puts}
use Rattle.wakeup_lat.proofs.lines.put_pair.Goals as goal

pub returns-clause-value : goal.returns-clause-value
unfolding pair_text
returns-clause-value c =
    let pair = c.args.pair.now in
    let text : c.as_bytes.result.now ≡ duration_text (latency pair) =
    c.as_bytes.ensures ∙ c.prepend_duration.ensures.value ∙ ap (λ (l : List ℕ). duration_text c.latency.result ++ l) c.new-waited.ensures
    ∙ append-nil (duration_text c.latency.result) ∙ ap duration_text c.latency.ensures in
    puts (held c.args.into.now) (held c.prefix.new.into) (held c.put.new.self) (held c.put-2.new.self)
    (prefix_text c.args.context.now pair.cpu pair.time pair.common) (codes "latency ") (duration_text (latency pair))
    c.prefix.ensures.value c.put.ensures.held (c.put-2.ensures.held ∙ ap (put_held (held c.put.new.self)) text)
