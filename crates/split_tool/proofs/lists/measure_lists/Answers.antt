use Rattle.std.proofs.Common.{rules, refl, arith, ◌<◌, ◌≤◌, length, get_or, ◌∙◌}
use Rattle.event_cursor.proofs.Told.{told_all, told_again, told_map}
use Rattle.split_tool.specs.Going.{ListDone}
use Rattle.split_tool.proofs.Gone.{first_more, gone_all, gone_more, gone_none, gone_stops}
use Rattle.split_tool.proofs.Measuring.{all_measured, list_done, measured_none, measured_there}
use Rattle.split_tool.proofs.lists.measure_lists.Goals as goal

pub loop-i-init : goal.loop-i-init
loop-i-init g c = record {
  gone = gone_none c.args.file.now c.args.lists.now;
  measured = told_all _ (g.F.File.bytes c.args.file.now) (λ file stands begun. measured_none file c.args.plan.now.rules c.args.lists.now c.none-ends.result c.none-ends.ensures.more c.none-ends.ensures.bad);
  done = λ j d lt. absurd (omega (arith, lt));
  faults = refl;
}

pub loop-i-preserved : goal.loop-i-preserved
loop-i-preserved g c =
    let i = c.loop-i.i in
    let d = c.index-lists-i.result in
    let new = c.measure_list.new.list in
    let made = c.measure_list.ensures in
    let gone = c.loop-i.invariant.gone in
    let lt : i < length c.loop-i.lists = search rules in
    record {
      gone = gone_more i c.args.file.now c.loop-i.file c.measure_list.new.file c.args.lists.now c.loop-i.lists d new lt made.layout made.through gone c.in_ok-ends.ensures.reads_done;
      measured = told_again _ _ _ (g.F.File.bytes c.args.file.now) (g.F.File.bytes c.loop-i.file) gone.keeps.bytes (λ file p one stands begun.
          measured_there file c.args.plan.now.rules i c.args.lists.now c.loop-i.lists d new c.loop-i.ends c.in_ok-ends.ends lt gone.long gone.others stands begun one (p stands begun))
          c.loop-i.invariant.measured c.in_ok-ends.ensures.told;
      done = first_more ListDone i c.args.lists.now c.loop-i.lists d new lt gone.others (list_done (get_or c.loop-i.lists i d) new made.fronts c.in_ok-ends.ensures.ready made.long made.over) c.loop-i.invariant.done;
      faults = c.in_ok-ends.ensures.cause.kept ∙ c.loop-i.invariant.faults;
    }

pub returns-in_err-ends-clause-go : goal.returns-in_err-ends-clause-go
returns-in_err-ends-clause-go g c =
    let i = c.loop-i.i in
    let d = c.index-lists-i.result in
    let gone = c.loop-i.invariant.gone in
    let lt : i < length c.loop-i.lists = search rules in
    gone_stops i c.args.file.now c.loop-i.file c.measure_list.new.file c.args.lists.now c.loop-i.lists d c.measure_list.new.list lt c.measure_list.ensures.layout c.measure_list.ensures.through gone

pub returns-clause-go : goal.returns-clause-go
returns-clause-go g c =
    gone_all c.loop-i.i c.args.file.now c.loop-i.file c.args.lists.now c.loop-i.lists c.loop-i.invariant.gone

pub returns-clause-told : goal.returns-clause-told
returns-clause-told g c =
    let over : length c.args.lists.now ≤ c.loop-i.i = search rules in
    let gone = c.loop-i.invariant.gone in
    told_map _ _ (g.F.File.bytes c.args.file.now) (λ file p stands begun.
    all_measured file c.args.plan.now.rules c.loop-i.i c.args.lists.now c.loop-i.lists c.loop-i.ends c.requires.groups c.requires.rise gone.long gone.each over (p stands begun))
    c.loop-i.invariant.measured

pub returns-clause-done : goal.returns-clause-done
returns-clause-done g c =
    let over : length c.args.lists.now ≤ c.loop-i.i = search rules in
    λ j d lt. c.loop-i.invariant.done j d (omega (arith, lt, over))
