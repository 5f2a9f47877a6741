use Rattle.std.proofs.Common.{rules, refl, arith, ◌<◌, ◌≤◌, length, get_or, ◌∙◌}
use Rattle.event_cursor.proofs.Told.{told_all, told_both, told_map}
use Rattle.split_passes.proofs.Passing.{ready_done}
use Rattle.split_tool.specs.Going.{ListBegun}
use Rattle.split_tool.specs.Work.{HasOwnLayouts}
use Rattle.split_tool.proofs.Begun.{StaysOn, all_stay, list_begun, loaded_through, stays_here}
use Rattle.split_tool.proofs.Gone.{first_more, gone_all, gone_more, gone_none, gone_stops}
use Rattle.split_tool.proofs.lists.begin_lists.Goals as goal

pub loop-i-init : goal.loop-i-init
loop-i-init g c = record {
  gone = gone_none c.args.file.now c.args.lists.now;
  stays = told_all _ (g.F.File.bytes c.args.file.now) (λ file j d lt. absurd (omega (arith, lt)));
  begun = λ j d lt. absurd (omega (arith, lt));
  own = λ j d lt. absurd (omega (arith, lt));
  faults = refl;
}

pub loop-i-preserved : goal.loop-i-preserved
loop-i-preserved g c =
    let i = c.loop-i.i in
    let d = c.index-lists-i.result in
    let new = c.begin.new.self in
    let x = get_or c.loop-i.lists i d in
    let made = c.begin.ensures in
    let gone = c.loop-i.invariant.gone in
    let lt : i < length c.loop-i.lists = search rules in
    let through = loaded_through c.loop-i.file c.begin.new.file x.all new.all made.loads in
    record {
      gone = gone_more i c.args.file.now c.loop-i.file c.begin.new.file c.args.lists.now c.loop-i.lists d new lt made.layout through gone
          (ready_done (g.F.File.size c.loop-i.file) new.all _ _ _ c.in_ok-begin.ensures.begun.ready made.loads.reads);
      stays = told_both _ _ _ (g.F.File.bytes c.args.file.now) (λ file p one. first_more (StaysOn file) i c.args.lists.now c.loop-i.lists d new lt gone.others one p)
          c.loop-i.invariant.stays (stays_here (g.F.File.bytes c.args.file.now) (g.F.File.bytes c.loop-i.file) x.all new.all gone.keeps.bytes made.loads.rows made.loads.stands);
      begun = first_more (λ a b. ListBegun b) i c.args.lists.now c.loop-i.lists d new lt gone.others (list_begun new c.in_ok-begin.ensures.begun made.fronts_long made.tallies_long) c.loop-i.invariant.begun;
      own = first_more (λ a b. HasOwnLayouts a) i c.args.lists.now c.loop-i.lists d new lt gone.others made.layouts c.loop-i.invariant.own;
      faults = c.in_ok-begin.ensures.cause.kept ∙ c.loop-i.invariant.faults;
    }

pub returns-in_err-begin-clause-go : goal.returns-in_err-begin-clause-go
returns-in_err-begin-clause-go g c =
    let i = c.loop-i.i in
    let d = c.index-lists-i.result in
    let new = c.begin.new.self in
    let x = get_or c.loop-i.lists i d in
    let gone = c.loop-i.invariant.gone in
    let lt : i < length c.loop-i.lists = search rules in
    gone_stops i c.args.file.now c.loop-i.file c.begin.new.file c.args.lists.now c.loop-i.lists d new lt c.begin.ensures.layout
    (loaded_through c.loop-i.file c.begin.new.file x.all new.all c.begin.ensures.loads) gone

pub returns-clause-go : goal.returns-clause-go
returns-clause-go g c =
    gone_all c.loop-i.i c.args.file.now c.loop-i.file c.args.lists.now c.loop-i.lists c.loop-i.invariant.gone

pub returns-clause-begun : goal.returns-clause-begun
returns-clause-begun g c =
    let over : length c.args.lists.now ≤ c.loop-i.i = search rules in
    λ j d lt. c.loop-i.invariant.begun j d (omega (arith, lt, over, c.loop-i.invariant.gone.long))

pub returns-clause-told : goal.returns-clause-told
returns-clause-told g c =
    let over : length c.args.lists.now ≤ c.loop-i.i = search rules in
    told_map _ _ (g.F.File.bytes c.args.file.now) (λ file p. all_stay file c.loop-i.i c.args.lists.now c.loop-i.lists c.loop-i.invariant.gone.long over p)
    c.loop-i.invariant.stays

pub returns-clause-layouts : goal.returns-clause-layouts
returns-clause-layouts g c =
    let over : length c.args.lists.now ≤ c.loop-i.i = search rules in
    λ j d lt. c.loop-i.invariant.own j d (omega (arith, lt, over))
