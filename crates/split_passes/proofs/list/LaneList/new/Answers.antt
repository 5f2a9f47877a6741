use Rattle.std.proofs.Common.{ℕ, List, length, ap, subst, sym, arith}
use Rattle.std.proofs.lemmas.List.{length-map, length-replicate}
use Rattle.tournament_tree.specs.declared.slot_key.SlotKey.TheVariants.{Empty}
use Rattle.trace_base.specs.declared.part.Part.{Part}
use Rattle.subpage.specs.Arrangement.{CpusRise}
use Rattle.page_pool.specs.declared.lane.Lane.{Lane}
use Rattle.time_merge.proofs.UnusedLanes.{unused_layouts}
use Rattle.split_passes.proofs.list.LaneList.new.Goals as goal

pub invariant_of-result : goal.invariant_of-result
invariant_of-result c =
    let pool = c.in_ok-pool.pool in
    let all = ap length c.in_ok-pool.ensures.parts in
    let each = length-map {B = ℕ × Part} pool (λ (a : Lane). (a.cpu, a.part)) in
    record {
      layouts = unused_layouts c.args.layout.now 0 pool c.in_ok-pool.ensures.unused;
      rise = subst (λ (ps : List (ℕ × Part)). CpusRise ps) (sym c.in_ok-pool.ensures.parts) c.requires.rise;
      slots = omega (arith, ap length c.in_ok-nexts.ensures, length-replicate (length c.args.parts.now) Empty, all, each);
      fronts_long = omega (arith, c.in_ok-fronts.ensures, all, each);
      tallies_long = omega (arith, c.in_ok-tallies.ensures, all, each);
    }
