use Rattle.std.proofs.Common.{ℕ, List, ap, arith, subst, sym, ◌∙◌}
use Rattle.trace_base.specs.declared.part.Part.{Part}
use Rattle.subpage.specs.Arrangement.{CpusRise}
use Rattle.time_merge.specs.LaneRows.{parts_of}
use Rattle.time_merge.proofs.UnusedLanes.{lent_unused, unused_fresh, unused_layouts}
use Rattle.lane_tests.proofs.tests.merging.ends_so.Goals as goal

pub all_keys-requires-clause-layouts : goal.all_keys-requires-clause-layouts
all_keys-requires-clause-layouts c = unused_layouts _ 16 _ (lent_unused _ 16 _ _ c.lanes.ensures.value c.in_ok-pool.ensures.unused)

pub all_keys-requires-clause-rise : goal.all_keys-requires-clause-rise
all_keys-requires-clause-rise c =
    subst (λ (ps : List (ℕ × Part)). CpusRise ps) (sym (ap parts_of c.lanes.ensures.value ∙ c.in_ok-pool.ensures.parts)) (omega arith, tt)

pub all_keys-requires-clause-fresh : goal.all_keys-requires-clause-fresh
all_keys-requires-clause-fresh c = unused_fresh _ 16 _ (lent_unused _ 16 _ _ c.lanes.ensures.value c.in_ok-pool.ensures.unused)
