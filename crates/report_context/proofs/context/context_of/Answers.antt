use Rattle.std.proofs.Common.{◌≡◌, ◌⊎◌, sym, subst}
use Rattle.trace_base.proofs.Layouts.{commit_is_long}
use Rattle.line_fronts.specs.declared.show.Show.{Show}
use Rattle.report_context.proofs.context.context_of.Goals as goal

pub build-requires : goal.build-requires
build-requires c = subst (λ (s : Show). (s.long ≡ 4) ⊎ (s.long ≡ 8)) (sym c.in_ok-show.ensures) (commit_is_long c.args.header.layout)
