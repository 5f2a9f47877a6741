use Rattle.std.proofs.Common.{◌≡◌, false, Bool, List, length, inl, inr, sym, ap, subst, arith, ◌∙◌}
use Rattle.std.proofs.lemmas.Bool.{cases_Bool}
use Rattle.std.proofs.lemmas.List.{length-set}
use Rattle.page_pool.specs.Moved.{IsFirstMark, NoneMarked}
use Rattle.time_merge.specs.Horizons.{high_of}
use Rattle.time_merge.specs.LaneRows.{IsReady}
use Rattle.round_print.specs.Prints.{head_kept}
use Rattle.report_rounds.proofs.Settling.{TellsSoFar, ready_more, tells_along, tells_last, tells_more, unmarked_along, unmarked_more}
use Rattle.report_rounds.proofs.settle.settle.Goals as goal

pub loop-i-preserved : goal.loop-i-preserved
loop-i-preserved c =
    let so_far = c.loop-i.invariant in
    let work = c.loop-i.work in
    let lanes = c.args.lanes.now in
    let i = c.in-Some.i in
    let first : IsFirstMark work.moved.items c.loop-i.from i = subst (λ (marks : List Bool). IsFirstMark marks c.loop-i.from i) c.as_slice.ensures.value c.in-Some.ensures in
    let lane = c.index-lanes-i.result in
    let mark = c.wants_load.result in
    let unmarked : IsReady lane → mark ≡ false = λ ready. elim (cases_Bool mark) [
      | inl wanted ↦ absurd (c.wants_load.ensures.never wanted ready)
      | inr none ↦ none
    ] in
    record {
      within = omega (arith, first.inside, length-set work.moved.items i mark);
      slots = record {
        heads = ap length c.set.ensures ∙ length-set work.heads i c.head_kept.result ∙ so_far.slots.heads;
        highs = ap length c.set-in-Some.ensures ∙ length-set work.highs i c.high_of.result ∙ so_far.slots.highs;
        marks = length-set work.moved.items i mark ∙ so_far.slots.marks;
      };
      ready = ready_more IsReady work.moved.items lanes i lane mark first.inside (λ none. subst IsReady c.index-lanes-i.is (c.wants_load.ensures.ready none)) so_far.ready;
      unmarked = unmarked_more IsReady work.moved.items lanes i lane mark first.inside (λ ready. unmarked (subst IsReady (sym c.index-lanes-i.is) ready))
          (unmarked_along IsReady work.moved.items lanes c.loop-i.from i first.behind first.none so_far.unmarked);
      heads = tells_more head_kept work.moved.items work.heads lanes i (tells_along head_kept work.moved.items work.heads lanes c.loop-i.from i first.behind first.none so_far.heads)
          lane mark c.head_kept.result c.set.new.self (omega (arith, first.inside, so_far.slots.heads, so_far.slots.marks)) (c.head_kept.ensures ∙ ap head_kept c.index-lanes-i.is) c.set.ensures;
      highs = tells_more high_of work.moved.items work.highs lanes i (tells_along high_of work.moved.items work.highs lanes c.loop-i.from i first.behind first.none so_far.highs)
          lane mark c.high_of.result c.set-in-Some.new.self (omega (arith, first.inside, so_far.slots.highs, so_far.slots.marks)) (c.high_of.ensures ∙ ap high_of c.index-lanes-i.is) c.set-in-Some.ensures;
      pending = so_far.pending;
    }

pub returns-clause-heads : goal.returns-clause-heads
returns-clause-heads c =
    let so_far = c.loop-i.invariant in
    let work = c.loop-i.work in
    let lanes = c.args.lanes.now in
    let none : NoneMarked work.moved.items c.loop-i.from (length work.moved.items) = subst (λ (marks : List Bool). NoneMarked marks c.loop-i.from (length marks)) c.as_slice.ensures.value c.in_default.ensures in
    tells_last head_kept work.moved.items work.heads lanes so_far.slots.heads
    (subst (TellsSoFar head_kept work.moved.items work.heads lanes) so_far.slots.marks
    (tells_along head_kept work.moved.items work.heads lanes c.loop-i.from (length work.moved.items) so_far.within none so_far.heads))

pub returns-clause-highs : goal.returns-clause-highs
returns-clause-highs c =
    let so_far = c.loop-i.invariant in
    let work = c.loop-i.work in
    let lanes = c.args.lanes.now in
    let none : NoneMarked work.moved.items c.loop-i.from (length work.moved.items) = subst (λ (marks : List Bool). NoneMarked marks c.loop-i.from (length marks)) c.as_slice.ensures.value c.in_default.ensures in
    tells_last high_of work.moved.items work.highs lanes so_far.slots.highs
    (subst (TellsSoFar high_of work.moved.items work.highs lanes) so_far.slots.marks
    (tells_along high_of work.moved.items work.highs lanes c.loop-i.from (length work.moved.items) so_far.within none so_far.highs))
