use Rattle.std.proofs.Common.{rules, refl, arith, ◌<◌, ◌≤◌, length, ◌∙◌}
use Rattle.event_cursor.proofs.Told.{told_all, told_again, told_map}
use Rattle.split_tool.specs.Work.{HasOwnLayouts}
use Rattle.split_tool.proofs.Gone.{first_more, gone_all, gone_more, gone_none, gone_stops}
use Rattle.split_tool.proofs.Passing.{all_started, started_more}
use Rattle.split_tool.proofs.start.pass_start.Goals as goal

pub loop-i-init : goal.loop-i-init
loop-i-init g c = record {
  gone = gone_none c.args.file.now c.args.lists.now;
  started = told_all _ (g.F.File.bytes c.args.file.now) (λ file stands j d lt. absurd (omega (arith, lt)));
  own = λ j d lt. absurd (omega (arith, lt));
  faults = refl;
}

pub loop-i-preserved : goal.loop-i-preserved
loop-i-preserved g c =
    let i = c.loop-i.i in
    let d = c.index-lists-i.result in
    let gone = c.loop-i.invariant.gone in
    let lt : i < length c.loop-i.lists = search rules in
    record {
      gone = gone_more i c.args.file.now c.loop-i.file c.pass_over.new.file c.args.lists.now c.loop-i.lists d c.pass_over.new.self lt c.pass_over.ensures.layout c.pass_over.ensures.through gone c.in_ok-pass_over.ensures.reads_done;
      started = told_again _ _ _ (g.F.File.bytes c.args.file.now) (g.F.File.bytes c.loop-i.file) gone.keeps.bytes (λ file p one stands.
          started_more file c.args.plan.now.rules.start i c.args.lists.now c.loop-i.lists d c.pass_over.new.self lt gone.long gone.others stands one (p stands))
          c.loop-i.invariant.started c.in_ok-pass_over.ensures.told;
      own = first_more (λ a b. HasOwnLayouts a) i c.args.lists.now c.loop-i.lists d c.pass_over.new.self lt gone.others c.pass_over.ensures.layouts c.loop-i.invariant.own;
      faults = c.in_ok-pass_over.ensures.cause.kept ∙ c.loop-i.invariant.faults;
    }

pub returns-in_err-pass_over-clause-go : goal.returns-in_err-pass_over-clause-go
returns-in_err-pass_over-clause-go g c =
    let i = c.loop-i.i in
    let d = c.index-lists-i.result in
    let gone = c.loop-i.invariant.gone in
    let lt : i < length c.loop-i.lists = search rules in
    gone_stops i c.args.file.now c.loop-i.file c.pass_over.new.file c.args.lists.now c.loop-i.lists d c.pass_over.new.self lt c.pass_over.ensures.layout c.pass_over.ensures.through gone

pub returns-clause-go : goal.returns-clause-go
returns-clause-go g c =
    gone_all c.loop-i.i c.args.file.now c.loop-i.file c.args.lists.now c.loop-i.lists c.loop-i.invariant.gone

pub returns-clause-told : goal.returns-clause-told
returns-clause-told g c =
    let over : length c.args.lists.now ≤ c.loop-i.i = search rules in
    let gone = c.loop-i.invariant.gone in
    told_map _ _ (g.F.File.bytes c.args.file.now) (λ file p stands.
    all_started file c.args.plan.now.rules c.loop-i.i c.args.lists.now c.loop-i.lists c.requires.groups gone.long gone.each over (p stands))
    c.loop-i.invariant.started

pub returns-clause-layouts : goal.returns-clause-layouts
returns-clause-layouts g c =
    let over : length c.args.lists.now ≤ c.loop-i.i = search rules in
    λ j d lt. c.loop-i.invariant.own j d (omega (arith, lt, over))
