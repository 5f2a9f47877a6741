use Rattle.std.proofs.Common.{rules, refl, arith, ◌∙◌, ◌≡◌, ◌≤◌, ℕ, List, Option, ap, subst}
use Rattle.std.specs.Option.{IfSome}
use Rattle.trace_outside.proofs.Keeping.{file_kept, file_still}
use Rattle.subpage.specs.Processor.{page_count}
use Rattle.event_cursor.specs.declared.loading.Loaded.{Loaded}
use Rattle.event_cursor.specs.declared.loading.Loaded.TheVariants as loaded
use Rattle.page_pool.proofs.Keeping.{lane_kept}
use Rattle.page_pool.specs.declared.cursor.LaneState.{LaneState}
use Rattle.page_pool.specs.declared.cursor.LaneState.TheVariants.{Fresh, Held, Ended}
use Rattle.page_pool.specs.declared.lane.Lane.{Lane}
use Rattle.page_pool.specs.InOrder.{IsInOrder}
use Rattle.page_pool.specs.Keeping.{KeepsLane, loading}
use Rattle.event_cursor.specs.Standing.{OwnIfHeld}
use Rattle.event_cursor.specs.Unread.{first_unread, size_from, unread}
use Rattle.event_cursor.proofs.UnreadLaws.{open_le, asked_reads, asked_less, passed_reads, passed_less}
use Rattle.event_cursor.specs.Loading.{ComesTo, KeepsLeft, IsAnswer}
use Rattle.event_cursor.proofs.Told.{told_all, told_both}
use Rattle.event_cursor.proofs.Leaving.{stays, at_end, keeps_trans, stands_answered, stands_failed}
use Rattle.event_cursor.proofs.loading.load.Goals as goal

-- the lane in another state
in_state : (a : Lane) (s : LaneState) (order : IsInOrder a.layout a.page (record a.cursor { state = s }))
    → KeepsLane loading a (record a { cursor = record a.cursor { state = s }; in_order = order })
in_state a s order = record { cpu = refl; layout = refl; part = refl; region = refl; page = tt; state = tt; held = tt; next = tt; forward = omega arith; high = refl; cursor = tt }

pub loop-lane-init : goal.loop-lane-init
loop-lane-init g c = record {
  fresh = refl;
  place = in_state c.args.lane.now Fresh _;
  most = search rules;
  reads = omega arith;
  unread = open_le (size_from c.args.lane.now.layout (g.F.File.size c.args.file.now) c.args.lane.now.part) c.args.lane.now.cursor.state c.args.lane.now.cursor.next c.requires.sound;
  left = told_all _ (g.F.File.bytes c.args.file.now) (λ file. stays file c.args.lane.now _ c.requires.used_up refl refl refl refl);
  keeps = file_still _ _;
  faults = refl;
}

pub loop-lane-preserved : goal.loop-lane-preserved
loop-lane-preserved g c =
    let n = c.in_ok-answer.ensures in
    let inv = c.loop-lane.invariant in
    let told = g.F.File.bytes c.args.file.now in
    let passed = subst (λ (o : Option Loaded). ComesTo (g.F.File.size c.loop-lane.file) c.loop-lane.lane c.load_next.new.lane o) c.in_default.is n.comes in
    let left = subst (λ (o : Option (List ℕ)). IfSome o (λ file. KeepsLeft file c.loop-lane.lane c.load_next.new.lane)) inv.keeps.bytes n.left in
    record {
      fresh = passed.fresh;
      place = lane_kept inv.place n.place;
      most = omega (arith, n.most, inv.most);
      reads = passed_reads (g.F.File.size c.args.file.now) (g.F.File.size c.loop-lane.file) c.args.lane.now c.loop-lane.lane c.load_next.new.lane inv.keeps.size _ _ _ inv.reads inv.unread n.reads passed.read;
      unread = passed_less (g.F.File.size c.args.file.now) (g.F.File.size c.loop-lane.file) c.args.lane.now c.loop-lane.lane c.load_next.new.lane inv.keeps.size _ _ _ inv.reads inv.unread n.reads passed.read;
      left = told_both _ _ _ told (λ file k k2. keeps_trans file c.args.lane.now c.loop-lane.lane c.load_next.new.lane k k2) inv.left left;
      keeps = file_kept inv.keeps n.keeps;
      faults = n.cause.kept ∙ inv.faults;
    }

pub returns-in-Some-clause-state : goal.returns-in-Some-clause-state
returns-in-Some-clause-state g c =
    (subst (λ (o : Option Loaded). ComesTo (g.F.File.size c.loop-lane.file) c.loop-lane.lane c.load_next.new.lane o) c.in-Some.is c.in_ok-answer.ensures.comes).0

pub returns-in-Some-clause-answer : goal.returns-in-Some-clause-answer
returns-in-Some-clause-answer g c =
    let told = g.F.File.bytes c.args.file.now in
    subst (λ (o : Option (List ℕ)). IfSome o (λ file. IsAnswer file c.load_next.new.lane c.in-Some.answer)) c.loop-lane.invariant.keeps.bytes
    (subst (λ (o : Option Loaded). IfSome (g.F.File.bytes c.loop-lane.file) (λ file. IfSome o (IsAnswer file c.load_next.new.lane))) c.in-Some.is c.in_ok-answer.ensures.answer)

pub returns-in-Some-clause-loads : goal.returns-in-Some-clause-loads
returns-in-Some-clause-loads g c =
    let told = g.F.File.bytes c.args.file.now in
    let size = g.F.File.size c.args.file.now in
    let inv = c.loop-lane.invariant in
    let same : g.F.File.bytes c.loop-lane.file ≡ told = inv.keeps.bytes in
    let n = c.in_ok-answer.ensures in
    let comes = subst (λ (o : Option Loaded). ComesTo (g.F.File.size c.loop-lane.file) c.loop-lane.lane c.load_next.new.lane o) c.in-Some.is n.comes in
    let left = subst (λ (o : Option (List ℕ)). IfSome o (λ file. KeepsLeft file c.loop-lane.lane c.load_next.new.lane)) same n.left in
    record {
      readied = record {
        place = lane_kept inv.place n.place;
        left = told_both _ _ _ told (λ file k k2. keeps_trans file c.args.lane.now c.loop-lane.lane c.load_next.new.lane k k2) inv.left left;
        stands = stands_answered told c.args.lane.now c.loop-lane.lane c.load_next.new.lane c.in-Some.answer inv.left left inv.place n.place comes.0
            (subst (λ (o : Option (List ℕ)). IfSome o (λ file. IsAnswer file c.load_next.new.lane c.in-Some.answer)) same
            (subst (λ (o : Option Loaded). IfSome (g.F.File.bytes c.loop-lane.file) (λ file. IfSome o (IsAnswer file c.load_next.new.lane))) c.in-Some.is n.answer))
            (subst (λ (o : Option (List ℕ)). IfSome o (λ file. OwnIfHeld file c.load_next.new.lane)) same n.own);
        most = omega (arith, n.most, inv.most);
      };
      reads = asked_reads size (g.F.File.size c.loop-lane.file) c.args.lane.now c.loop-lane.lane c.load_next.new.lane inv.keeps.size _ _ _ inv.reads inv.unread n.reads comes.1;
      unread = asked_less size (g.F.File.size c.loop-lane.file) c.args.lane.now c.loop-lane.lane c.load_next.new.lane inv.keeps.size _ _ _ inv.reads inv.unread n.reads comes.1;
      keeps = file_kept inv.keeps n.keeps;
    }

pub returns-in_err-answer-clause-loads : goal.returns-in_err-answer-clause-loads
returns-in_err-answer-clause-loads g c =
    let told = g.F.File.bytes c.args.file.now in
    let size = g.F.File.size c.args.file.now in
    let inv = c.loop-lane.invariant in
    let same : g.F.File.bytes c.loop-lane.file ≡ told = inv.keeps.bytes in
    let n = c.in_err-answer.ensures in
    let left = subst (λ (o : Option (List ℕ)). IfSome o (λ file. KeepsLeft file c.loop-lane.lane c.load_next.new.lane)) same n.left in
    record {
      readied = record {
        place = lane_kept inv.place n.place;
        left = told_both _ _ _ told (λ file k k2. keeps_trans file c.args.lane.now c.loop-lane.lane c.load_next.new.lane k k2) inv.left left;
        stands = stands_failed told c.args.lane.now c.loop-lane.lane c.load_next.new.lane inv.left left inv.place n.place n.failed
            (subst (λ (o : Option (List ℕ)). IfSome o (λ file. OwnIfHeld file c.load_next.new.lane)) same n.own);
        most = omega (arith, n.most, inv.most);
      };
      reads = asked_reads size (g.F.File.size c.loop-lane.file) c.args.lane.now c.loop-lane.lane c.load_next.new.lane inv.keeps.size _ _ _ inv.reads inv.unread n.reads n.asked;
      unread = asked_less size (g.F.File.size c.loop-lane.file) c.args.lane.now c.loop-lane.lane c.load_next.new.lane inv.keeps.size _ _ _ inv.reads inv.unread n.reads n.asked;
      keeps = file_kept inv.keeps n.keeps;
    }

pub returns-clause-answer : goal.returns-clause-answer
returns-clause-answer g c =
    let all : page_count c.loop-lane.lane.layout c.loop-lane.lane.part ≤ c.loop-lane.lane.cursor.next = search rules in
    told_all _ (g.F.File.bytes c.args.file.now) (λ file. at_end file _ refl all)

pub returns-clause-loads : goal.returns-clause-loads
returns-clause-loads g c =
    let told = g.F.File.bytes c.args.file.now in
    let size = g.F.File.size c.args.file.now in
    let inv = c.loop-lane.invariant in
    let mid = c.loop-lane.lane in
    let all : page_count mid.layout mid.part ≤ mid.cursor.next = search rules in
    let still = told_all _ told (λ file. stays file mid _ (search rules) refl refl refl refl) in
    let place = in_state mid Ended _ in
    let not_read : unread size mid ≡ size_from mid.layout size mid.part mid.cursor.next = ap (λ (s : LaneState). size_from mid.layout size mid.part (first_unread s mid.cursor.next)) inv.fresh in
    record {
      readied = record {
        place = lane_kept inv.place place;
        left = told_both _ _ _ told (λ file k k2. keeps_trans file c.args.lane.now mid _ k k2) inv.left still;
        stands = stands_answered told c.args.lane.now mid _ loaded.End inv.left still inv.place place refl
            (told_all _ told (λ file. at_end file _ refl all))
            (told_all _ told (λ file e. let never : Ended ≡ Held = e in absurd cc));
        most = inv.most;
      };
      reads = omega (arith, inv.reads, not_read);
      unread = omega (arith, inv.unread, not_read);
      keeps = inv.keeps;
    }
