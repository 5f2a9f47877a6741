use Rattle.std.proofs.Common.{sym, ◌∙◌}
use Rattle.trace_base.specs.Allowed.{allowed_is}
use Rattle.trace_base.proofs.Layouts.{layout_is, none_is}
use Rattle.trace_base.proofs.layout.Layout.new.Goals as goal

pub invariant_of-result : goal.invariant_of-result
invariant_of-result c =
    let allowed = allowed_is c.args.time_at c.args.commit_at c.args.commit_size c.args.data_at c.args.page (sym c.is_allowed.ensures ∙ c.if-is_allowed.true) in
    record { allowed = allowed }

pub returns-then-is_allowed : goal.returns-then-is_allowed
returns-then-is_allowed c = layout_is c.args.order c.args.time_at c.args.commit_at c.args.commit_size c.args.data_at c.args.page _ (sym c.is_allowed.ensures ∙ c.if-is_allowed.true)

pub returns-else-is_allowed : goal.returns-else-is_allowed
returns-else-is_allowed c = none_is c.args.order c.args.time_at c.args.commit_at c.args.commit_size c.args.data_at c.args.page (sym c.is_allowed.ensures ∙ c.if-is_allowed.false)
