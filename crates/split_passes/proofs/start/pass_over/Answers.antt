use Rattle.std.proofs.Common.{refl, arith, ◌<◌, length, get_or, set, ◌∙◌}
use Rattle.trace_outside.proofs.Keeping.{file_kept, file_still}
use Rattle.event_cursor.proofs.Told.{told_all, told_map}
use Rattle.time_merge.specs.declared.next_lanes.Next.TheVariants as code
use Rattle.time_merge.proofs.Advancing.{advances_not, same_length}
use Rattle.time_merge.proofs.OneLane.{in_step_but}
use Rattle.time_merge.proofs.Going.{holds_is, next_is, still_parts}
use Rattle.time_merge.proofs.PartReads.{going_reads, loading_reads, stepping_unread}
use Rattle.split_passes.proofs.Going.{advances_on, advances_stepped}
use Rattle.split_passes.proofs.Through.{through_loaded}
use Rattle.split_passes.proofs.Passing.{ready_done}
use Rattle.split_passes.proofs.Passing.{passing_none, passing_loaded, passing_on, passed_all, passed_out}
use Rattle.split_passes.proofs.start.pass_over.Goals as goal

pub loop-i-init : goal.loop-i-init
loop-i-init g c = record {
  parts = refl;
  in_step = tt;
  slots = refl;
  passing = told_all _ (g.F.File.bytes c.args.file.now) (λ file s. passing_none file _ c.args.lanes.now s);
  advance = λ j d lt. advances_not (get_or c.args.lanes.now j d);
  reads = omega arith;
  unread = omega arith;
  keeps = file_still _ _;
  faults = refl;
}

pub loop-i-preserved : goal.loop-i-preserved
loop-i-preserved g c =
    let lt : c.in-Lane.i < length c.next_lane_by.new.lanes = (holds_is c.next_lane_by.new.lanes c.in-Lane.is c.in_ok-i.ensures.holds).0 in
    let long = same_length c.loop-i.lanes c.args.lanes.now c.loop-i.invariant.parts in
    let long1 = same_length c.next_lane_by.new.lanes c.loop-i.lanes c.next_lane_by.ensures.loads.parts in
    let on = advances_on c.args.lanes.now c.loop-i.lanes c.next_lane_by.new.lanes long c.loop-i.invariant.advance c.next_lane_by.ensures.loads.advance in
    let held = ((holds_is c.next_lane_by.new.lanes c.in-Lane.is c.in_ok-i.ensures.holds).1 c.index-lanes-i-in-Lane.result).0 in
    let still = stepping_unread (g.F.File.size c.args.file.now) c.next_lane_by.new.lanes c.in-Lane.i c.index-lanes-i-in-Lane.result c.step.new.lane lt c.step.ensures.used in
    let reads = going_reads (g.F.File.size c.args.file.now) (g.F.File.size c.loop-i.file) c.loop-i.lanes c.next_lane_by.new.lanes (set c.next_lane_by.new.lanes c.in-Lane.i c.step.new.lane) _ _ _ _
    c.loop-i.invariant.keeps.size still c.in_ok-i.ensures.ready c.loop-i.invariant.reads c.loop-i.invariant.unread c.next_lane_by.ensures.loads.reads c.next_lane_by.ensures.loads.unread in
    record {
      parts = still_parts c.next_lane_by.new.lanes c.in-Lane.i c.index-lanes-i-in-Lane.result c.step.new.lane lt c.step.ensures.used ∙ c.next_lane_by.ensures.loads.parts ∙ c.loop-i.invariant.parts;
      in_step = in_step_but c.next_lane_by.new.lanes c.next_lane_by.new.nexts c.in-Lane.i c.step.new.lane lt c.in_ok-i.ensures.ready c.in_ok-i.ensures.nexts;
      slots = c.next_lane_by.ensures.slots ∙ c.loop-i.invariant.slots;
      passing = told_map _ _ (g.F.File.bytes c.args.file.now) (λ file h s.
          let r = h s in
          passing_on file c.args.start c.args.lanes.now c.next_lane_by.new.lanes c.in-Lane.i c.index-lanes-i-in-Lane.result c.index-lanes-i.result c.step.new.lane c.stands_before.result lt r.1 c.step.ensures.used c.stands_before.ensures c.if-not-stands_before.false r.0)
          (passing_loaded (g.F.File.bytes c.args.file.now) (g.F.File.bytes c.loop-i.file) _ c.args.lanes.now c.loop-i.lanes c.next_lane_by.new.lanes (code.Lane c.in-Lane.i)
          c.loop-i.invariant.keeps.bytes c.loop-i.invariant.passing c.next_lane_by.ensures.loads.rows c.next_lane_by.ensures.loads.stands (next_is _ _ c.next_lane_by.new.lanes c.in-Lane.is c.in_ok-i.ensures.next));
      advance = advances_stepped c.args.lanes.now c.next_lane_by.new.lanes c.in-Lane.i c.index-lanes-i-in-Lane.result c.step.new.lane (long1 ∙ long) lt held c.step.ensures.used on;
      reads = reads.0;
      unread = reads.1;
      keeps = file_kept c.loop-i.invariant.keeps c.next_lane_by.ensures.loads.keeps;
      faults = c.in_ok-i.ensures.cause.kept ∙ c.loop-i.invariant.faults;
    }

pub returns-then-not-stands_before-clause-told : goal.returns-then-not-stands_before-clause-told
returns-then-not-stands_before-clause-told g c =
    told_map _ _ (g.F.File.bytes c.args.file.now) (λ file h s.
    let r = h s in
    passed_all file c.args.start c.args.lanes.now c.next_lane_by.new.lanes c.in-Lane.i c.index-lanes-i.result c.stands_before.result r.1 c.stands_before.ensures c.if-not-stands_before.true r.0)
    (passing_loaded (g.F.File.bytes c.args.file.now) (g.F.File.bytes c.loop-i.file) _ c.args.lanes.now c.loop-i.lanes c.next_lane_by.new.lanes (code.Lane c.in-Lane.i)
    c.loop-i.invariant.keeps.bytes c.loop-i.invariant.passing c.next_lane_by.ensures.loads.rows c.next_lane_by.ensures.loads.stands (next_is _ _ c.next_lane_by.new.lanes c.in-Lane.is c.in_ok-i.ensures.next))

pub returns-in-Done-clause-told : goal.returns-in-Done-clause-told
returns-in-Done-clause-told g c =
    told_map _ _ (g.F.File.bytes c.args.file.now) (λ file h s.
    let r = h s in
    passed_out file _ c.args.lanes.now c.next_lane_by.new.lanes r.1.0 r.0)
    (passing_loaded (g.F.File.bytes c.args.file.now) (g.F.File.bytes c.loop-i.file) _ c.args.lanes.now c.loop-i.lanes c.next_lane_by.new.lanes code.Done
    c.loop-i.invariant.keeps.bytes c.loop-i.invariant.passing c.next_lane_by.ensures.loads.rows c.next_lane_by.ensures.loads.stands (next_is _ _ c.next_lane_by.new.lanes c.in-Done.is c.in_ok-i.ensures.next))

pub returns-in-Malformed-clause-told : goal.returns-in-Malformed-clause-told
returns-in-Malformed-clause-told g c =
    told_map _ _ (g.F.File.bytes c.args.file.now) (λ file h s.
    let r = h s in
    passed_out file _ c.args.lanes.now c.next_lane_by.new.lanes r.1.0 r.0)
    (passing_loaded (g.F.File.bytes c.args.file.now) (g.F.File.bytes c.loop-i.file) _ c.args.lanes.now c.loop-i.lanes c.next_lane_by.new.lanes (code.Malformed c.in-Malformed.field-0)
    c.loop-i.invariant.keeps.bytes c.loop-i.invariant.passing c.next_lane_by.ensures.loads.rows c.next_lane_by.ensures.loads.stands (next_is _ _ c.next_lane_by.new.lanes c.in-Malformed.is c.in_ok-i.ensures.next))

pub returns-then-not-stands_before-clause-through : goal.returns-then-not-stands_before-clause-through
returns-then-not-stands_before-clause-through g c =
    through_loaded c.args.file.now c.loop-i.file c.next_lane_by.new.file c.args.lanes.now c.loop-i.lanes c.next_lane_by.new.lanes
    c.loop-i.invariant.parts c.loop-i.invariant.advance c.loop-i.invariant.reads c.loop-i.invariant.unread c.loop-i.invariant.keeps c.next_lane_by.ensures.loads

pub returns-in-Done-clause-through : goal.returns-in-Done-clause-through
returns-in-Done-clause-through g c =
    through_loaded c.args.file.now c.loop-i.file c.next_lane_by.new.file c.args.lanes.now c.loop-i.lanes c.next_lane_by.new.lanes
    c.loop-i.invariant.parts c.loop-i.invariant.advance c.loop-i.invariant.reads c.loop-i.invariant.unread c.loop-i.invariant.keeps c.next_lane_by.ensures.loads

pub returns-in-Malformed-clause-through : goal.returns-in-Malformed-clause-through
returns-in-Malformed-clause-through g c =
    through_loaded c.args.file.now c.loop-i.file c.next_lane_by.new.file c.args.lanes.now c.loop-i.lanes c.next_lane_by.new.lanes
    c.loop-i.invariant.parts c.loop-i.invariant.advance c.loop-i.invariant.reads c.loop-i.invariant.unread c.loop-i.invariant.keeps c.next_lane_by.ensures.loads

pub returns-in_err-i-clause-through : goal.returns-in_err-i-clause-through
returns-in_err-i-clause-through g c =
    through_loaded c.args.file.now c.loop-i.file c.next_lane_by.new.file c.args.lanes.now c.loop-i.lanes c.next_lane_by.new.lanes
    c.loop-i.invariant.parts c.loop-i.invariant.advance c.loop-i.invariant.reads c.loop-i.invariant.unread c.loop-i.invariant.keeps c.next_lane_by.ensures.loads

pub returns-then-not-stands_before-clause-reads_done : goal.returns-then-not-stands_before-clause-reads_done
returns-then-not-stands_before-clause-reads_done g c =
    ready_done (g.F.File.size c.args.file.now) c.next_lane_by.new.lanes _ _ _ c.in_ok-i.ensures.ready
    (loading_reads (g.F.File.size c.args.file.now) (g.F.File.size c.loop-i.file) c.loop-i.lanes c.next_lane_by.new.lanes _ _ _ _
    c.loop-i.invariant.keeps.size c.loop-i.invariant.reads c.loop-i.invariant.unread c.next_lane_by.ensures.loads.reads c.next_lane_by.ensures.loads.unread).0

pub returns-in-Done-clause-reads_done : goal.returns-in-Done-clause-reads_done
returns-in-Done-clause-reads_done g c =
    ready_done (g.F.File.size c.args.file.now) c.next_lane_by.new.lanes _ _ _ c.in_ok-i.ensures.ready
    (loading_reads (g.F.File.size c.args.file.now) (g.F.File.size c.loop-i.file) c.loop-i.lanes c.next_lane_by.new.lanes _ _ _ _
    c.loop-i.invariant.keeps.size c.loop-i.invariant.reads c.loop-i.invariant.unread c.next_lane_by.ensures.loads.reads c.next_lane_by.ensures.loads.unread).0

pub returns-in-Malformed-clause-reads_done : goal.returns-in-Malformed-clause-reads_done
returns-in-Malformed-clause-reads_done g c =
    ready_done (g.F.File.size c.args.file.now) c.next_lane_by.new.lanes _ _ _ c.in_ok-i.ensures.ready
    (loading_reads (g.F.File.size c.args.file.now) (g.F.File.size c.loop-i.file) c.loop-i.lanes c.next_lane_by.new.lanes _ _ _ _
    c.loop-i.invariant.keeps.size c.loop-i.invariant.reads c.loop-i.invariant.unread c.next_lane_by.ensures.loads.reads c.next_lane_by.ensures.loads.unread).0
