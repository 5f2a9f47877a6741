use Rattle.std.proofs.Common.{refl, ◌≤◌, ℕ, get_or, arith, ◌-◌, ◌∙◌}
use Rattle.std.proofs.lemmas.Result.{on_ok_weaker}
use Rattle.std.proofs.lemmas.List.Elements.{All-set, All-get_or}
use Rattle.std.proofs.lemmas.List.Sums.{sum_by-set}
use Rattle.trace_outside.specs.Causes.{raised}
use Rattle.trace_outside.proofs.Gains.{on_err}
use Rattle.event_cursor.specs.Standing.{most_left}
use Rattle.event_cursor.proofs.Told.{told_all}
use Rattle.time_merge.specs.LaneRows.{HasLayout, IsReady}
use Rattle.time_merge.specs.Reads.{all_unread}
use Rattle.time_merge.proofs.Advancing.{advances_one, advances_more, advances_not}
use Rattle.time_merge.proofs.LaneReads.{less_unread, one_read, stopped}
use Rattle.time_merge.proofs.Readying.{same_parts, same_rows, stand_still}
use Rattle.time_merge.proofs.OneLane.{ready_set}
use Rattle.time_merge.proofs.ready.make_one_ready.Goals as goal

pub returns-clause-loads : goal.returns-clause-loads
returns-clause-loads g c =
    let lanes = c.args.lanes.now in
    let i = c.args.i in
    let told = g.F.File.bytes c.args.file.now in
    let size = g.F.File.size c.args.file.now in
    let d = c.index-lanes-i.result in
    let now = c.make_ready.new.lane in
    let inside = c.requires.inside in
    let here = c.make_ready.ensures.loads in
    let readied = here.readied in
    let all : ℕ = all_unread size lanes in
    let none : g.F.File.reads c.args.file.now ≤ raised (g.F.File.reads c.args.file.now) (all - all) = omega arith in
    record {
      layouts = λ k all. All-set (HasLayout k) lanes i now (readied.place.layout ∙ All-get_or (HasLayout k) lanes i d inside all) all;
      parts = same_parts lanes i d now inside readied.place;
      advance = advances_more lanes lanes i d now refl inside (advances_one (get_or lanes i d) now readied.place c.make_ready.ensures.kept) (λ j d lt. advances_not (get_or lanes j d));
      rows = same_rows told told lanes lanes i d now refl inside readied.place (told_all _ told (λ bytes. refl)) readied.left;
      stands = stand_still told told lanes lanes i d now refl inside (told_all _ told (λ bytes h. h)) readied.stands;
      most = omega (arith, sum_by-set most_left lanes i now d inside, readied.most);
      reads = one_read size size lanes i d now refl inside _ _ _ _ none (omega arith) here.reads here.unread;
      unread = less_unread size size lanes i d now refl inside _ (omega arith) here.unread;
      keeps = here.keeps;
    }

pub returns-clause-ready : goal.returns-clause-ready
returns-clause-ready g c =
    on_ok_weaker c.make_ready.result (λ ready. ready_set IsReady c.args.lanes.now c.args.i c.make_ready.new.lane c.requires.inside ready c.requires.others) c.make_ready.ensures.ready

pub returns-clause-stops : goal.returns-clause-stops
returns-clause-stops g c =
    let all : ℕ = all_unread (g.F.File.size c.args.file.now) c.args.lanes.now in
    let none : g.F.File.reads c.args.file.now ≤ raised (g.F.File.reads c.args.file.now) (all - all) = omega arith in
    on_err c.make_ready.result (stopped (g.F.File.size c.args.file.now) (g.F.File.size c.args.file.now) c.args.lanes.now c.args.i c.index-lanes-i.result c.make_ready.new.lane refl c.requires.inside
    c.args.lanes.now _ _ _ refl (λ j d le. refl) none (omega arith) c.make_ready.ensures.loads.reads c.make_ready.ensures.loads.unread)
