use Rattle.std.proofs.Common.{◌≡◌, length, ap, subst, ◌∙◌}
use Rattle.split_passes.specs.ListSeen.{ListSeen}
use Rattle.split_passes.proofs.list.LaneList.tallies.Goals as goal

pub returns-clause-long : goal.returns-clause-long
returns-clause-long c =
    ap length c.as_slice.ensures.value ∙ subst (λ (v : ListSeen). length c.self.inside.tallies.items ≡ length v.all) c.self.view_is c.self.invariant.tallies_long
