use Rattle.std.proofs.Common.{◌≡◌, ℕ, List, ◌++◌, rules, ap, ◌∙◌}
use Rattle.std.specs.Prelude.{codes}
use Rattle.trace_base.specs.TailView.{held}
use Rattle.line_columns.specs.Columns.{duration_text}
use Rattle.graph_report.proofs.Spaces.{duration_column_is}
use Rattle.graph_report.proofs.text.put_nanos.Goals as goal

pub returns-clause-value : goal.returns-clause-value
returns-clause-value c =
    let bar : c.prepend_text.new.self ≡ codes " | " = c.prepend_text.ensures.value ∙ ap (λ (l : List ℕ). codes " | " ++ l) c.new-front.ensures in
    let text : c.as_bytes-text.result.now ≡ duration_text c.args.nanos ++ codes " | " =
    c.as_bytes-text.ensures ∙ c.prepend_duration.ensures.value ∙ ap (λ (l : List ℕ). duration_text c.args.nanos ++ l) bar in
    duration_column_is (held c.args.into.now) (held c.put_spaces.new.into) (held c.put_piece.new.self) c.args.nanos c.as_bytes-text.result.now c.saturating_sub.result text (search rules) c.put_spaces.ensures.value c.put_piece.ensures.held
