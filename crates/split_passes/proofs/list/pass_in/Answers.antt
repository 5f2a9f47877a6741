use Rattle.std.proofs.Common.{◌-◌, ◌≤◌, List, Option, Some, refl, subst, sym, arith}
use Rattle.std.specs.Option.{IfSome}
use Rattle.std.specs.List.{All}
use Rattle.trace_outside.specs.Causes.{raised}
use Rattle.trace_outside.proofs.Keeping.{file_still}
use Rattle.page_pool.specs.Lending.{written}
use Rattle.page_pool.specs.declared.lane.Lane.{Lane}
use Rattle.event_cursor.specs.Standing.{Stands}
use Rattle.event_cursor.proofs.Told.{told_all}
use Rattle.time_merge.specs.Reads.{all_unread}
use Rattle.word_values.specs.declared.moment.Moment.{Moment}
use Rattle.split_passes.specs.Starting.{ListStarted}
use Rattle.split_passes.specs.Through.{GoThrough}
use Rattle.std.specs.Result.{OnOk}
use Rattle.split_passes.proofs.Lent.{lent}
use Rattle.split_passes.proofs.list.pass_in.Goals as goal

pub returns-clause-through : goal.returns-clause-through
returns-clause-through g c =
    lent (GoThrough g.F.File c.args.file.now c.pass_over.new.file) c.args.pool.now c.lanes.result.now c.pass_over.new.lanes c.lanes.ensures.value c.pass_over.ensures.through.parts c.pass_over.ensures.through

pub returns-clause-told : goal.returns-clause-told
returns-clause-told g c =
    let P : Option Moment → List Lane → List Lane → Type 0 = λ start a b. OnOk c.pass_over.result (IfSome (g.F.File.bytes c.args.file.now) (λ file. All (Stands file) a → ListStarted file start a b)) in
    subst (λ (start : Option Moment). P start c.args.pool.now (written c.args.pool.now c.pass_over.new.lanes)) (sym c.in-Some.is)
    (lent (P (Some c.in-Some.start)) c.args.pool.now c.lanes.result.now c.pass_over.new.lanes c.lanes.ensures.value c.pass_over.ensures.through.parts c.pass_over.ensures.told)

pub returns-clause-reads_done : goal.returns-clause-reads_done
returns-clause-reads_done g c =
    let len = g.F.File.size c.args.file.now in
    lent (λ (a b : List Lane). OnOk c.pass_over.result (g.F.File.reads c.pass_over.new.file ≤ raised (g.F.File.reads c.args.file.now) (all_unread len a - all_unread len b)))
    c.args.pool.now c.lanes.result.now c.pass_over.new.lanes c.lanes.ensures.value c.pass_over.ensures.through.parts c.pass_over.ensures.reads_done

pub returns-in_default-clause-through : goal.returns-in_default-clause-through
returns-in_default-clause-through g c = record {
  parts = refl;
  advance = λ i d lt. record { layout = refl; part = refl; forward = omega arith; over = λ over. refl };
  reads = omega arith;
  unread = omega arith;
  keeps = file_still _ _;
}

pub returns-in_default-clause-told : goal.returns-in_default-clause-told
returns-in_default-clause-told g c =
    told_all _ (g.F.File.bytes c.args.file.now) (λ file stands. rw c.in_default.is (record { stands = stands; come = refl }))
