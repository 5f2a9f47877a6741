use Rattle.std.proofs.Common.{◌<◌, ℕ, List, length, arith, ap, sym, subst, ◌∙◌}
use Rattle.std.specs.List.{All}
use Rattle.trace_base.specs.declared.part.Part.{Part}
use Rattle.subpage.specs.Arrangement.{CpusRise}
use Rattle.page_pool.specs.Fresh.{IsFresh}
use Rattle.page_pool.specs.declared.lane.Lane.{Lane}
use Rattle.split_passes.specs.ListSeen.{ListSeen}
use Rattle.split_tool.specs.Lists.{lanes_of}
use Rattle.split_tool.specs.Work.{AreLists}
use Rattle.split_tests.proofs.LanesInRow.{parts_below, parts_length, parts_rise}
use Rattle.split_tests.proofs.tests.splits.split_parts.Goals as goal

pub lists_over-requires-clause-few : goal.lists_over-requires-clause-few
lists_over-requires-clause-few g c =
    let are = c.deref.ensures.value ∙ c.in_ok-parts.ensures in
    omega (arith, ap length are, parts_length c.args.first c.args.parts.now, c.requires.inside, c.requires.allowed.cpus)

pub lists_over-requires-clause-rise : goal.lists_over-requires-clause-rise
lists_over-requires-clause-rise g c =
    let are = c.deref.ensures.value ∙ c.in_ok-parts.ensures in
    subst (λ (ps : List (ℕ × Part)). CpusRise ps) (sym are) (parts_rise c.args.first c.args.parts.now)

pub lists_over-requires-clause-cpus : goal.lists_over-requires-clause-cpus
lists_over-requires-clause-cpus g c =
    let are = c.deref.ensures.value ∙ c.in_ok-parts.ensures in
    let cpus = c.args.plan.now.header.now.cpus in
    subst (λ (ps : List (ℕ × Part)). All (λ (part : ℕ × Part). part.0 < cpus) ps) (sym are) (parts_below c.args.first cpus c.args.parts.now c.requires.inside)

pub split-requires-clause-fresh : goal.split-requires-clause-fresh
split-requires-clause-fresh g c =
    subst (λ (lists : List ListSeen). All (λ (lane : Lane). IsFresh lane.cursor) (lanes_of lists)) (sym c.as_mut_slice.ensures.value) c.in_ok-lists.ensures.fresh

pub split-requires-clause-lists : goal.split-requires-clause-lists
split-requires-clause-lists g c =
    subst (λ (lists : List ListSeen). AreLists c.args.plan.now.rules c.args.plan.now.header.now lists) (sym c.as_mut_slice.ensures.value) c.in_ok-lists.ensures.lists
