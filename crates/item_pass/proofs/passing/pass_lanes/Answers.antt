use Rattle.std.proofs.Common.{refl, arith, [], Some, ap, ◌∙◌}
use Rattle.event_cursor.proofs.Told.{told_all, told_map}
use Rattle.time_merge.specs.LaneNexts.{cut_at}
use Rattle.time_merge.proofs.UnusedLanes.{unused_fresh, unused_layouts}
use Rattle.time_merge.proofs.PartReads.{going_reads, reads_inside}
use Rattle.item_pass.proofs.PassSteps.{a_lane, begins, loaded, goes_on, all_passed, no_cut, one_cut, using_fewer, using_parts, using_unread, using_layouts}
use Rattle.item_pass.proofs.passing.pass_lanes.Goals as goal

pub loop-lanes-init : goal.loop-lanes-init
loop-lanes-init g c = record {
  layouts = unused_layouts c.args.lanes.now.layout 0 c.args.lanes.now.all c.requires.unused;
  parts = refl;
  known = ([], c.requires.none);
  passed = told_all _ (g.F.File.bytes c.args.file.now) (λ file. begins _ _ file c.args.lanes.now.all (unused_fresh c.args.lanes.now.layout 0 c.args.lanes.now.all c.requires.unused) c.requires.none);
  reads = omega arith;
  unread = omega arith;
  keeps = record { bytes = refl; size = refl; later = omega arith };
  faults = refl;
}

pub loop-lanes-smaller : goal.loop-lanes-smaller
loop-lanes-smaller g c =
    let m = g.G.Others.matters c.args.gatherer.now in
    let l = c.args.lanes.now.layout in
    let before = c.loop-lanes.lanes.all in
    let lanes = c.make_ready.new.self.all in
    let v = c.loop-lanes.invariant in
    let loads = c.make_ready.ensures.loads in
    let i = c.in-Item.i in
    let now = c.use_up.new.self.all in
    let used = c.use_up.ensures.used in
    omega (arith, using_fewer m lanes i now c.in-Item.ensures.holds.0 used, loads.most)

pub loop-lanes-preserved : goal.loop-lanes-preserved
loop-lanes-preserved g c =
    let m = g.G.Others.matters c.args.gatherer.now in
    let l = c.args.lanes.now.layout in
    let before = c.loop-lanes.lanes.all in
    let lanes = c.make_ready.new.self.all in
    let v = c.loop-lanes.invariant in
    let loads = c.make_ready.ensures.loads in
    let i = c.in-Item.i in
    let now = c.use_up.new.self.all in
    let used = c.use_up.ensures.used in
    let lt = c.in-Item.ensures.holds.0 in
    let size = g.F.File.size c.args.file.now in
    let ready = c.in_ok-make_ready.ensures.ready in
    let next = c.in-Item.ensures.next in
    let taken = c.in-Ok.ensures.taken in
    let reads = going_reads size (g.F.File.size c.loop-lanes.file) before lanes now _ _ _ _ v.keeps.size (using_unread m lanes i now lt used size) ready v.reads v.unread loads.reads loads.unread in
    record {
      layouts = using_layouts m lanes i now lt used l (loads.layouts l v.layouts);
      parts = using_parts m lanes i now lt used ∙ loads.parts ∙ v.parts;
      known = c.in-Ok.ensures.known;
      passed = told_map _ _ (g.F.File.bytes c.args.file.now) (λ file p. goes_on m _ _ file c.args.lanes.now.all lanes i now lt used taken (next file p.stands) p)
          (loaded m _ (g.F.File.bytes c.args.file.now) (g.F.File.bytes c.loop-lanes.file) c.args.lanes.now.all before lanes v.keeps.bytes v.passed loads.rows loads.stands);
      reads = reads.0;
      unread = reads.1;
      keeps = record {
        bytes = loads.keeps.bytes ∙ v.keeps.bytes;
        size = loads.keeps.size ∙ v.keeps.size;
        later = omega (arith, loads.keeps.later, v.keeps.later);
      };
      faults = c.in_ok-make_ready.ensures.cause.kept ∙ v.faults;
    }

pub returns-in-Cut-clause-gathered : goal.returns-in-Cut-clause-gathered
returns-in-Cut-clause-gathered g c =
    let m = g.G.Others.matters c.args.gatherer.now in
    let l = c.args.lanes.now.layout in
    let before = c.loop-lanes.lanes.all in
    let lanes = c.make_ready.new.self.all in
    let v = c.loop-lanes.invariant in
    let loads = c.make_ready.ensures.loads in
    let next = c.in-Cut.ensures.next in
    told_map _ _ (g.F.File.bytes c.args.file.now) (λ file p. all_passed m _ l file c.args.lanes.now.all lanes (unused_layouts l 0 c.args.lanes.now.all c.requires.unused) (unused_fresh l 0 c.args.lanes.now.all c.requires.unused) (next file p.stands).0 p)
    (loaded m _ (g.F.File.bytes c.args.file.now) (g.F.File.bytes c.loop-lanes.file) c.args.lanes.now.all before lanes v.keeps.bytes v.passed loads.rows loads.stands)

pub returns-in-Cut-clause-cut : goal.returns-in-Cut-clause-cut
returns-in-Cut-clause-cut g c =
    let m = g.G.Others.matters c.args.gatherer.now in
    let l = c.args.lanes.now.layout in
    let before = c.loop-lanes.lanes.all in
    let lanes = c.make_ready.new.self.all in
    let v = c.loop-lanes.invariant in
    let loads = c.make_ready.ensures.loads in
    let next = c.in-Cut.ensures.next in
    let d = a_lane lanes c.in-Cut.i c.in-Cut.ensures.holds in
    told_map _ _ (g.F.File.bytes c.args.file.now)
    (λ file p. ap Some (c.place_before.ensures d) ∙ one_cut l file c.args.lanes.now.all lanes (cut_at lanes c.in-Cut.i d) (loads.layouts l v.layouts) (loads.parts ∙ v.parts) ((next file p.stands).1 d))
    (loaded m _ (g.F.File.bytes c.args.file.now) (g.F.File.bytes c.loop-lanes.file) c.args.lanes.now.all before lanes v.keeps.bytes v.passed loads.rows loads.stands)

pub returns-in-Done-clause-gathered : goal.returns-in-Done-clause-gathered
returns-in-Done-clause-gathered g c =
    let m = g.G.Others.matters c.args.gatherer.now in
    let l = c.args.lanes.now.layout in
    let before = c.loop-lanes.lanes.all in
    let lanes = c.make_ready.new.self.all in
    let v = c.loop-lanes.invariant in
    let loads = c.make_ready.ensures.loads in
    let next = c.in-Done.ensures.next in
    told_map _ _ (g.F.File.bytes c.args.file.now) (λ file p. all_passed m _ l file c.args.lanes.now.all lanes (unused_layouts l 0 c.args.lanes.now.all c.requires.unused) (unused_fresh l 0 c.args.lanes.now.all c.requires.unused) (next file p.stands).0 p)
    (loaded m _ (g.F.File.bytes c.args.file.now) (g.F.File.bytes c.loop-lanes.file) c.args.lanes.now.all before lanes v.keeps.bytes v.passed loads.rows loads.stands)

pub returns-in-Done-clause-cut : goal.returns-in-Done-clause-cut
returns-in-Done-clause-cut g c =
    let m = g.G.Others.matters c.args.gatherer.now in
    let l = c.args.lanes.now.layout in
    let before = c.loop-lanes.lanes.all in
    let lanes = c.make_ready.new.self.all in
    let v = c.loop-lanes.invariant in
    let loads = c.make_ready.ensures.loads in
    let next = c.in-Done.ensures.next in
    told_map _ _ (g.F.File.bytes c.args.file.now) (λ file p. no_cut l file c.args.lanes.now.all lanes (loads.layouts l v.layouts) (loads.parts ∙ v.parts) (next file p.stands).1)
    (loaded m _ (g.F.File.bytes c.args.file.now) (g.F.File.bytes c.loop-lanes.file) c.args.lanes.now.all before lanes v.keeps.bytes v.passed loads.rows loads.stands)

pub returns-in_err-make_ready-clause-reads : goal.returns-in_err-make_ready-clause-reads
returns-in_err-make_ready-clause-reads g c =
    let l = c.args.lanes.now.layout in
    let before = c.loop-lanes.lanes.all in
    let lanes = c.make_ready.new.self.all in
    let v = c.loop-lanes.invariant in
    let loads = c.make_ready.ensures.loads in
    reads_inside (g.F.File.size c.args.file.now) (g.F.File.size c.loop-lanes.file) c.args.lanes.now.all before lanes _ _ _
    v.keeps.size v.reads v.unread loads.reads loads.unread

pub returns-in-Err-clause-reads : goal.returns-in-Err-clause-reads
returns-in-Err-clause-reads g c =
    let l = c.args.lanes.now.layout in
    let before = c.loop-lanes.lanes.all in
    let lanes = c.make_ready.new.self.all in
    let v = c.loop-lanes.invariant in
    let loads = c.make_ready.ensures.loads in
    reads_inside (g.F.File.size c.args.file.now) (g.F.File.size c.loop-lanes.file) c.args.lanes.now.all before lanes _ _ _
    v.keeps.size v.reads v.unread loads.reads loads.unread

pub returns-in-Cut-clause-reads : goal.returns-in-Cut-clause-reads
returns-in-Cut-clause-reads g c =
    let l = c.args.lanes.now.layout in
    let before = c.loop-lanes.lanes.all in
    let lanes = c.make_ready.new.self.all in
    let v = c.loop-lanes.invariant in
    let loads = c.make_ready.ensures.loads in
    reads_inside (g.F.File.size c.args.file.now) (g.F.File.size c.loop-lanes.file) c.args.lanes.now.all before lanes _ _ _
    v.keeps.size v.reads v.unread loads.reads loads.unread

pub returns-in-Done-clause-reads : goal.returns-in-Done-clause-reads
returns-in-Done-clause-reads g c =
    let l = c.args.lanes.now.layout in
    let before = c.loop-lanes.lanes.all in
    let lanes = c.make_ready.new.self.all in
    let v = c.loop-lanes.invariant in
    let loads = c.make_ready.ensures.loads in
    reads_inside (g.F.File.size c.args.file.now) (g.F.File.size c.loop-lanes.file) c.args.lanes.now.all before lanes _ _ _
    v.keeps.size v.reads v.unread loads.reads loads.unread
