use Rattle.std.proofs.Common.{refl, arith, ◌≡◌, ℕ, ◌<◌, List, length, get_or, set, sum_by, sym, ap, subst, ◌∙◌}
use Rattle.std.proofs.lemmas.List.{length-set, get_or-set_same}
use Rattle.trace_base.specs.declared.part.Part.{Part}
use Rattle.subpage.specs.Arrangement.{CpusRise}
use Rattle.page_pool.specs.declared.lane.Lane.{Lane}
use Rattle.page_pool.specs.declared.cursor.LaneState.TheVariants.{Held}
use Rattle.time_merge.specs.LaneRows.{parts_of}
use Rattle.time_merge.specs.Reads.{all_unread}
use Rattle.time_merge.specs.Advancing.{IsOver}
use Rattle.trace_outside.proofs.Keeping.{file_kept, file_still}
use Rattle.event_cursor.specs.Standing.{most_left}
use Rattle.event_cursor.proofs.Told.{told_all, told_map}
use Rattle.time_merge.specs.declared.next_lanes.Next.TheVariants as code
use Rattle.time_merge.proofs.Advancing.{advances_not}
use Rattle.time_merge.proofs.Going.{fewer, holds_is, next_is, still_parts}
use Rattle.time_merge.proofs.OneLane.{in_step_but}
use Rattle.split_passes.proofs.Going.{advances_on, advances_stepped, over_more}
use Rattle.time_merge.proofs.Advancing.{same_length}
use Rattle.time_merge.proofs.PartReads.{going_reads, stepping_unread}
use Rattle.split_passes.proofs.Running.{runs_none, runs_on, loaded, all_measured, past_measured, full_measured}
use Rattle.split_passes.proofs.Through.{through_loaded}
use Rattle.split_passes.specs.declared.tally.Tally.{Tally}
use Rattle.split_passes.specs.Rounds.{Counts}
use Rattle.split_passes.proofs.RoundRuns.{more_kept, more_runs}
use Rattle.split_passes.proofs.measuring.measure.Goals as goal

pub loop-i-init : goal.loop-i-init
loop-i-init g c = record {
  parts = refl;
  long = c.requires.long;
  in_step = tt;
  slots = refl;
  runs = told_all _ (g.F.File.bytes c.args.file.now) (λ file s t. runs_none file c.args.stop c.args.gauge.now c.args.lanes.now c.args.tallies.now s t);
  advance = λ j d lt. advances_not (get_or c.args.lanes.now j d);
  over = λ j d t lt over. refl;
  reads = omega arith;
  unread = omega arith;
  keeps = file_still _ _;
  faults = refl;
}

pub take_more-used-requires-clause-rise : goal.take_more-used-requires-clause-rise
take_more-used-requires-clause-rise g c =
    let came : List Lane = c.next_lane_by.new.lanes in
    let lt : c.in-Lane.i < length came = (holds_is came c.in-Lane.is c.in_ok-i.ensures.holds).0 in
    let same : parts_of (set came c.in-Lane.i c.step.new.lane) ≡ parts_of c.args.lanes.now =
    still_parts came c.in-Lane.i c.index-lanes-i-in-Takes.result c.step.new.lane lt c.step.ensures.used ∙ c.next_lane_by.ensures.loads.parts ∙ c.loop-i.invariant.parts in
    subst (λ (ps : List (ℕ × Part)). CpusRise ps) (sym same) c.requires.rise

pub take_more-used-requires-clause-in_step : goal.take_more-used-requires-clause-in_step
take_more-used-requires-clause-in_step g c =
    let came : List Lane = c.next_lane_by.new.lanes in
    let lt : c.in-Lane.i < length came = (holds_is came c.in-Lane.is c.in_ok-i.ensures.holds).0 in
    in_step_but came c.next_lane_by.new.nexts c.in-Lane.i c.step.new.lane lt c.in_ok-i.ensures.ready c.in_ok-i.ensures.nexts

pub take_more-used-requires-clause-held : goal.take_more-used-requires-clause-held
take_more-used-requires-clause-held g c = λ d.
    let i : ℕ = c.in-Lane.i in
    let came : List Lane = c.next_lane_by.new.lanes in
    let holds = holds_is came c.in-Lane.is c.in_ok-i.ensures.holds in
    let held = (holds.1 c.index-lanes-i-in-Takes.result).0 in
    ap (λ (a : Lane). a.cursor.state) (get_or-set_same came i c.step.new.lane d holds.0) ∙ c.step.ensures.used.page.state ∙ held

pub loop-i-smaller : goal.loop-i-smaller
loop-i-smaller g c =
    let i : ℕ = c.in-Lane.i in
    let came : List Lane = c.next_lane_by.new.lanes in
    let holds = holds_is came c.in-Lane.is c.in_ok-i.ensures.holds in
    let now : Lane = c.step.new.lane in
    let stepped : List Lane = set came i now in
    let held = ap (λ (a : Lane). a.cursor.state) (get_or-set_same came i now now holds.0) ∙ c.step.ensures.used.page.state ∙ (holds.1 c.index-lanes-i-in-Takes.result).0 in
    let before : Counts = record { gauge = c.choose.new.gauge; lanes = stepped; tallies = set c.loop-i.tallies i c.choose.new.tally } in
    let after : Counts = record { gauge = c.take_more-used.new.gauge; lanes = c.take_more-used.new.lanes; tallies = c.take_more-used.new.tallies } in
    let but = in_step_but came c.next_lane_by.new.nexts i now holds.0 c.in_ok-i.ensures.ready c.in_ok-i.ensures.nexts in
    let kept = more_kept c.args.stop c.next_lane_by.new.nexts i now c.choose.new.tally before after c.take_more-used.result but held c.take_more-used.ensures.taken in
    let less : sum_by most_left stepped < sum_by most_left c.loop-i.lanes = fewer (sum_by most_left c.loop-i.lanes) came i c.index-lanes-i-in-Takes.result now holds.0 c.step.ensures.most c.next_lane_by.ensures.loads.most in
    omega (arith, less, kept.most)

pub loop-i-preserved : goal.loop-i-preserved
loop-i-preserved g c =
    let i : ℕ = c.in-Lane.i in
    let first : List Lane = c.args.lanes.now in
    let size = g.F.File.size c.args.file.now in
    let came : List Lane = c.next_lane_by.new.lanes in
    let holds = holds_is came c.in-Lane.is c.in_ok-i.ensures.holds in
    let lt : i < length came = holds.0 in
    let held = (holds.1 c.index-lanes-i-in-Takes.result).0 in
    let parts = c.next_lane_by.ensures.loads.parts ∙ c.loop-i.invariant.parts in
    let long0 : length c.loop-i.tallies ≡ length first = c.loop-i.invariant.long ∙ same_length c.loop-i.lanes first c.loop-i.invariant.parts in
    let long1 : length came ≡ length c.loop-i.lanes = same_length came c.loop-i.lanes c.next_lane_by.ensures.loads.parts in
    let long2 = same_length c.loop-i.lanes first c.loop-i.invariant.parts in
    let on = advances_on first c.loop-i.lanes came long2 c.loop-i.invariant.advance c.next_lane_by.ensures.loads.advance in
    let now : Lane = c.step.new.lane in
    let stepped : List Lane = set came i now in
    let tallied : List Tally = set c.loop-i.tallies i c.choose.new.tally in
    let inside : i < length stepped = omega (arith, lt, length-set came i now) in
    let stepped_parts : parts_of stepped ≡ parts_of first = still_parts came i c.index-lanes-i-in-Takes.result now lt c.step.ensures.used ∙ parts in
    let stepped_long : length stepped ≡ length first = same_length stepped first stepped_parts in
    let tallied_long : length tallied ≡ length first = length-set c.loop-i.tallies i c.choose.new.tally ∙ long0 in
    let advance = advances_stepped first came i c.index-lanes-i-in-Takes.result now (long1 ∙ long2) lt held c.step.ensures.used on in
    let state : (get_or stepped i now).cursor.state ≡ Held = ap (λ (a : Lane). a.cursor.state) (get_or-set_same came i now now lt) ∙ c.step.ensures.used.page.state ∙ held in
    let before : Counts = record { gauge = c.choose.new.gauge; lanes = stepped; tallies = tallied } in
    let after : Counts = record { gauge = c.take_more-used.new.gauge; lanes = c.take_more-used.new.lanes; tallies = c.take_more-used.new.tallies } in
    let but = in_step_but came c.next_lane_by.new.nexts i now lt c.in_ok-i.ensures.ready c.in_ok-i.ensures.nexts in
    let more = c.take_more-used.ensures.taken in
    let kept = more_kept c.args.stop c.next_lane_by.new.nexts i now c.choose.new.tally before after c.take_more-used.result but state more in
    let still : all_unread size after.lanes ≡ all_unread size came = kept.unread size ∙ stepping_unread size came i c.index-lanes-i-in-Takes.result now lt c.step.ensures.used in
    let reads = going_reads size (g.F.File.size c.loop-i.file) c.loop-i.lanes came after.lanes _ _ _ _
    c.loop-i.invariant.keeps.size still c.in_ok-i.ensures.ready c.loop-i.invariant.reads c.loop-i.invariant.unread c.next_lane_by.ensures.loads.reads c.next_lane_by.ensures.loads.unread in
    let over = over_more first came c.args.tallies.now c.loop-i.tallies i c.index-lanes-i-in-Takes.result c.choose.new.tally lt held on c.loop-i.invariant.over in
    record {
      parts = kept.parts ∙ stepped_parts;
      long = kept.long ∙ tallied_long ∙ sym stepped_long ∙ sym (same_length after.lanes stepped kept.parts);
      in_step = kept.in_step;
      slots = c.next_lane_by.ensures.slots ∙ c.loop-i.invariant.slots;
      runs = told_map _ _ (g.F.File.bytes c.args.file.now) (λ file h s t.
          let r = h s t in
          more_runs file c.args.stop c.args.gauge.now first i now c.choose.new.tally before after c.take_more-used.result c.requires.rise stepped_parts tallied_long inside more
          (runs_on file c.args.stop c.args.gauge.now c.loop-i.gauge c.choose.new.gauge first came c.loop-i.tallies i c.index-lanes-i-in-Takes.result c.index-lanes-i.result now c.index-tallies-i.result c.choose.new.tally
          c.requires.rise parts long0 lt r.1 c.step.ensures.used c.in-Takes.ensures r.0))
          (loaded (g.F.File.bytes c.args.file.now) (g.F.File.bytes c.loop-i.file) c.args.stop c.args.gauge.now c.loop-i.gauge first c.loop-i.lanes came c.args.tallies.now c.loop-i.tallies (code.Lane i)
          c.loop-i.invariant.keeps.bytes c.loop-i.invariant.parts c.next_lane_by.ensures.loads.parts (λ j d lt. (c.next_lane_by.ensures.loads.advance j d lt).layout) c.loop-i.invariant.runs c.next_lane_by.ensures.loads.rows c.next_lane_by.ensures.loads.stands (next_is _ _ came c.in-Lane.is c.in_ok-i.ensures.next));
      advance = advances_on first stepped after.lanes stepped_long advance kept.advance;
      over = λ j d t jt is_over.
          let there : get_or stepped j d ≡ get_or first j d = (advance j d jt).over is_over in
          kept.over j d t (omega (arith, jt, stepped_long)) (subst (λ (a : Lane). IsOver a.cursor.state) (sym there) is_over) ∙ over j d t jt is_over;
      reads = reads.0;
      unread = reads.1;
      keeps = file_kept c.loop-i.invariant.keeps c.next_lane_by.ensures.loads.keeps;
      faults = c.in_ok-i.ensures.cause.kept ∙ c.loop-i.invariant.faults;
    }

pub returns-in-Past-clause-measured : goal.returns-in-Past-clause-measured
returns-in-Past-clause-measured g c =
    told_map _ _ (g.F.File.bytes c.args.file.now) (λ file h s t.
    let r = h s t in
    past_measured file c.args.stop c.args.gauge.now c.loop-i.gauge c.args.lanes.now c.next_lane_by.new.lanes c.loop-i.tallies c.in-Lane.i c.index-lanes-i.result c.index-tallies-i.result c.choose.new.tally r.1 c.in-Past.ensures r.0)
    (loaded (g.F.File.bytes c.args.file.now) (g.F.File.bytes c.loop-i.file) c.args.stop c.args.gauge.now c.loop-i.gauge c.args.lanes.now c.loop-i.lanes c.next_lane_by.new.lanes c.args.tallies.now c.loop-i.tallies (code.Lane c.in-Lane.i)
    c.loop-i.invariant.keeps.bytes c.loop-i.invariant.parts c.next_lane_by.ensures.loads.parts (λ j d lt. (c.next_lane_by.ensures.loads.advance j d lt).layout) c.loop-i.invariant.runs c.next_lane_by.ensures.loads.rows c.next_lane_by.ensures.loads.stands (next_is _ _ c.next_lane_by.new.lanes c.in-Lane.is c.in_ok-i.ensures.next))

pub returns-in-Full-clause-measured : goal.returns-in-Full-clause-measured
returns-in-Full-clause-measured g c =
    told_map _ _ (g.F.File.bytes c.args.file.now) (λ file h s t.
    let r = h s t in
    full_measured file c.args.stop c.args.gauge.now c.loop-i.gauge c.choose.new.gauge c.args.lanes.now c.next_lane_by.new.lanes c.loop-i.tallies c.in-Lane.i c.index-lanes-i.result c.index-tallies-i.result c.choose.new.tally r.1 c.in-Full.ensures r.0)
    (loaded (g.F.File.bytes c.args.file.now) (g.F.File.bytes c.loop-i.file) c.args.stop c.args.gauge.now c.loop-i.gauge c.args.lanes.now c.loop-i.lanes c.next_lane_by.new.lanes c.args.tallies.now c.loop-i.tallies (code.Lane c.in-Lane.i)
    c.loop-i.invariant.keeps.bytes c.loop-i.invariant.parts c.next_lane_by.ensures.loads.parts (λ j d lt. (c.next_lane_by.ensures.loads.advance j d lt).layout) c.loop-i.invariant.runs c.next_lane_by.ensures.loads.rows c.next_lane_by.ensures.loads.stands (next_is _ _ c.next_lane_by.new.lanes c.in-Lane.is c.in_ok-i.ensures.next))

pub returns-in-Done-clause-measured : goal.returns-in-Done-clause-measured
returns-in-Done-clause-measured g c =
    told_map _ _ (g.F.File.bytes c.args.file.now) (λ file h s t.
    let r = h s t in
    let m = all_measured file c.args.stop c.args.gauge.now c.loop-i.gauge c.args.lanes.now c.next_lane_by.new.lanes c.loop-i.tallies r.1.0 r.0 in
    (m.0, (r.1.0, m.1, r.1.1)))
    (loaded (g.F.File.bytes c.args.file.now) (g.F.File.bytes c.loop-i.file) c.args.stop c.args.gauge.now c.loop-i.gauge c.args.lanes.now c.loop-i.lanes c.next_lane_by.new.lanes c.args.tallies.now c.loop-i.tallies code.Done
    c.loop-i.invariant.keeps.bytes c.loop-i.invariant.parts c.next_lane_by.ensures.loads.parts (λ j d lt. (c.next_lane_by.ensures.loads.advance j d lt).layout) c.loop-i.invariant.runs c.next_lane_by.ensures.loads.rows c.next_lane_by.ensures.loads.stands (next_is _ _ c.next_lane_by.new.lanes c.in-Done.is c.in_ok-i.ensures.next))

pub returns-in-Malformed-clause-measured : goal.returns-in-Malformed-clause-measured
returns-in-Malformed-clause-measured g c =
    told_map _ _ (g.F.File.bytes c.args.file.now) (λ file h s t.
    let r = h s t in
    let m = all_measured file c.args.stop c.args.gauge.now c.loop-i.gauge c.args.lanes.now c.next_lane_by.new.lanes c.loop-i.tallies r.1.0 r.0 in
    (m.0, (r.1.0, m.1, r.1.1)))
    (loaded (g.F.File.bytes c.args.file.now) (g.F.File.bytes c.loop-i.file) c.args.stop c.args.gauge.now c.loop-i.gauge c.args.lanes.now c.loop-i.lanes c.next_lane_by.new.lanes c.args.tallies.now c.loop-i.tallies (code.Malformed c.in-Malformed.cut)
    c.loop-i.invariant.keeps.bytes c.loop-i.invariant.parts c.next_lane_by.ensures.loads.parts (λ j d lt. (c.next_lane_by.ensures.loads.advance j d lt).layout) c.loop-i.invariant.runs c.next_lane_by.ensures.loads.rows c.next_lane_by.ensures.loads.stands (next_is _ _ c.next_lane_by.new.lanes c.in-Malformed.is c.in_ok-i.ensures.next))

pub returns-in-Past-clause-through : goal.returns-in-Past-clause-through
returns-in-Past-clause-through g c =
    let before = c.loop-i.invariant in
    through_loaded c.args.file.now c.loop-i.file c.next_lane_by.new.file c.args.lanes.now c.loop-i.lanes c.next_lane_by.new.lanes
    before.parts before.advance before.reads before.unread before.keeps c.next_lane_by.ensures.loads

pub returns-in-Full-clause-through : goal.returns-in-Full-clause-through
returns-in-Full-clause-through g c =
    let before = c.loop-i.invariant in
    through_loaded c.args.file.now c.loop-i.file c.next_lane_by.new.file c.args.lanes.now c.loop-i.lanes c.next_lane_by.new.lanes
    before.parts before.advance before.reads before.unread before.keeps c.next_lane_by.ensures.loads

pub returns-in-Done-clause-through : goal.returns-in-Done-clause-through
returns-in-Done-clause-through g c =
    let before = c.loop-i.invariant in
    through_loaded c.args.file.now c.loop-i.file c.next_lane_by.new.file c.args.lanes.now c.loop-i.lanes c.next_lane_by.new.lanes
    before.parts before.advance before.reads before.unread before.keeps c.next_lane_by.ensures.loads

pub returns-in-Malformed-clause-through : goal.returns-in-Malformed-clause-through
returns-in-Malformed-clause-through g c =
    let before = c.loop-i.invariant in
    through_loaded c.args.file.now c.loop-i.file c.next_lane_by.new.file c.args.lanes.now c.loop-i.lanes c.next_lane_by.new.lanes
    before.parts before.advance before.reads before.unread before.keeps c.next_lane_by.ensures.loads

pub returns-in_err-i-clause-through : goal.returns-in_err-i-clause-through
returns-in_err-i-clause-through g c =
    let before = c.loop-i.invariant in
    through_loaded c.args.file.now c.loop-i.file c.next_lane_by.new.file c.args.lanes.now c.loop-i.lanes c.next_lane_by.new.lanes
    before.parts before.advance before.reads before.unread before.keeps c.next_lane_by.ensures.loads

pub returns-in-Past-clause-over : goal.returns-in-Past-clause-over
returns-in-Past-clause-over g c =
    over_more c.args.lanes.now c.next_lane_by.new.lanes c.args.tallies.now c.loop-i.tallies c.in-Lane.i c.index-lanes-i.result c.choose.new.tally (holds_is c.next_lane_by.new.lanes c.in-Lane.is c.in_ok-i.ensures.holds).0 ((holds_is c.next_lane_by.new.lanes c.in-Lane.is c.in_ok-i.ensures.holds).1 c.index-lanes-i.result).0
    (advances_on c.args.lanes.now c.loop-i.lanes c.next_lane_by.new.lanes (same_length c.loop-i.lanes c.args.lanes.now c.loop-i.invariant.parts) c.loop-i.invariant.advance c.next_lane_by.ensures.loads.advance) c.loop-i.invariant.over

pub returns-in-Full-clause-over : goal.returns-in-Full-clause-over
returns-in-Full-clause-over g c =
    over_more c.args.lanes.now c.next_lane_by.new.lanes c.args.tallies.now c.loop-i.tallies c.in-Lane.i c.index-lanes-i.result c.choose.new.tally (holds_is c.next_lane_by.new.lanes c.in-Lane.is c.in_ok-i.ensures.holds).0 ((holds_is c.next_lane_by.new.lanes c.in-Lane.is c.in_ok-i.ensures.holds).1 c.index-lanes-i.result).0
    (advances_on c.args.lanes.now c.loop-i.lanes c.next_lane_by.new.lanes (same_length c.loop-i.lanes c.args.lanes.now c.loop-i.invariant.parts) c.loop-i.invariant.advance c.next_lane_by.ensures.loads.advance) c.loop-i.invariant.over
