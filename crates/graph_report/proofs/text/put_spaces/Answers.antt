use Rattle.std.proofs.Common.{List, ℕ, take, ap, ◌∙◌}
use Rattle.trace_base.specs.Kept.{put_held}
use Rattle.trace_base.specs.TailView.{held}
use Rattle.graph_report.proofs.Spaces.{some_spaces}
use Rattle.graph_report.proofs.text.put_spaces.Goals as goal

pub returns-clause-value : goal.returns-clause-value
returns-clause-value c =
    c.put_front.ensures.held
    ∙ ap (λ (l : List ℕ). put_held (held c.args.into.now) (take c.args.count l)) c.spaces.ensures.value
    ∙ ap (put_held (held c.args.into.now)) (some_spaces c.args.count 100 c.requires)
