use Rattle.std.proofs.Common.{◌≡◌, ◌∙◌, ℕ, List, true, arith, length, replicate, ap, subst, sym}
use Rattle.std.proofs.lemmas.List.{length-replicate}
use Rattle.tournament_tree.specs.declared.slot_key.SlotKey.TheVariants.{Empty}
use Rattle.trace_base.specs.declared.part.Part.{Part}
use Rattle.subpage.specs.Arrangement.{CpusRise}
use Rattle.report_rounds.proofs.UnusedLanes.{unused_room, unused_start}
use Rattle.report_rounds.proofs.lanes.RoundLanes.new.Goals as goal

pub invariant_of-result : goal.invariant_of-result
invariant_of-result c =
    let pool = c.in_ok-pool.pool in
    let long : length c.args.parts.now ≡ length pool = sym c.in_ok-pool.ensures.count in
    let slots = length-replicate (length c.args.parts.now) Empty in
    record {
      start = unused_start c.args.layout.now c.args.room pool c.in_ok-pool.ensures.unused;
      rise = subst (λ (ps : List (ℕ × Part)). CpusRise ps) (sym c.in_ok-pool.ensures.parts) c.requires.rise;
      heads = omega (arith, ap length c.in_ok-heads.ensures, slots, long);
      highs = omega (arith, ap length c.in_ok-highs.ensures, slots, long);
      moved = c.in_ok-moved.ensures ∙ ap (λ (n : ℕ). replicate n true) long;
    }

pub returns-clause-room : goal.returns-clause-room
returns-clause-room c = unused_room c.args.layout.now c.args.room c.in_ok-pool.pool c.in_ok-pool.ensures.unused
