use Rattle.std.proofs.Common.{rules, refl, ◌≡◌, ◌<◌, [], ◌∷◌, ◌++◌, length, sym, subst, ◌∙◌}
use Rattle.std.specs.List.{All}
use Rattle.std.proofs.lemmas.List.Elements.{All-set, All-get_or}
use Rattle.trace_outside.proofs.Keeping.{file_kept, file_still}
use Rattle.time_merge.specs.LaneRows.{HasLayout}
use Rattle.event_cursor.proofs.Told.{told_all}
use Rattle.time_merge.specs.declared.next_lanes.Next.TheVariants as code
use Rattle.lane_tests.proofs.GoneThrough.{Gone, gone_none, going_on, all_gone}
use Rattle.time_merge.proofs.Going.{holds_is, next_is, still_parts}
use Rattle.lane_tests.proofs.tests.merging.all_keys.Goals as goal

pub loop-i-init : goal.loop-i-init
loop-i-init g c = record {
  layouts = c.requires.layouts;
  parts = refl;
  gone = told_all _ (g.F.File.bytes c.args.file.now) (λ file. subst (Gone c.args.layout.now file c.args.lanes.now c.args.lanes.now) (sym c.new-keys.ensures.items) (gone_none c.args.layout.now file c.args.lanes.now c.requires.layouts c.requires.fresh));
  keeps = file_still _ _;
}

pub loop-i-preserved : goal.loop-i-preserved
loop-i-preserved g c =
    let l = c.args.layout.now in
    let lt : c.in-Ok-Lane.i < length c.next_lane.new.lanes = (holds_is c.next_lane.new.lanes c.in-Ok-Lane.field-0-is c.in-Ok-Lane.ensures.holds).0 in
    let more : c.push.new.self.items ≡ c.loop-i.keys.items ++ c.use_head-key.result ∷ [] = search rules in
    record {
      layouts =
          let loaded : All (HasLayout l) c.next_lane.new.lanes = c.next_lane.ensures.loads.layouts l c.loop-i.invariant.layouts in
          All-set (HasLayout l) c.next_lane.new.lanes c.in-Ok-Lane.i c.use_head-key.new.lane (c.use_head-key.ensures.used.page.layout ∙ All-get_or (HasLayout l) c.next_lane.new.lanes c.in-Ok-Lane.i c.index-lanes-i.result lt loaded) loaded;
      parts = still_parts c.next_lane.new.lanes c.in-Ok-Lane.i c.index-lanes-i.result c.use_head-key.new.lane lt c.use_head-key.ensures.used ∙ c.next_lane.ensures.loads.parts ∙ c.loop-i.invariant.parts;
      gone = going_on l (g.F.File.bytes c.args.file.now) (g.F.File.bytes c.loop-i.file) c.args.lanes.now c.loop-i.lanes c.next_lane.new.lanes c.in-Ok-Lane.i c.index-lanes-i.result c.use_head-key.new.lane
          c.loop-i.keys.items c.push.new.self.items c.use_head-key.result c.loop-i.invariant.keeps.bytes c.loop-i.invariant.gone c.next_lane.ensures.loads.rows c.next_lane.ensures.loads.stands (next_is _ _ c.next_lane.new.lanes c.in-Ok-Lane.field-0-is c.in-Ok-Lane.ensures.next)
          lt c.use_head-key.ensures.used c.use_head-key.ensures.key more;
      keeps = file_kept c.loop-i.invariant.keeps c.next_lane.ensures.loads.keeps;
    }

pub returns-in-Ok-Done-clause-through : goal.returns-in-Ok-Done-clause-through
returns-in-Ok-Done-clause-through g c =
    all_gone c.args.layout.now (g.F.File.bytes c.args.file.now) (g.F.File.bytes c.loop-i.file) c.args.lanes.now c.loop-i.lanes c.next_lane.new.lanes c.loop-i.keys.items code.Done
    c.loop-i.invariant.keeps.bytes (λ i e. let h : code.Done ≡ code.Lane i = e in cc) (c.next_lane.ensures.loads.layouts c.args.layout.now c.loop-i.invariant.layouts) c.next_lane.ensures.loads.parts c.loop-i.invariant.parts c.loop-i.invariant.gone c.next_lane.ensures.loads.rows (next_is _ _ c.next_lane.new.lanes c.in-Ok-Done.field-0-is c.in-Ok-Done.ensures.next)

pub returns-in-Ok-Malformed-clause-through : goal.returns-in-Ok-Malformed-clause-through
returns-in-Ok-Malformed-clause-through g c =
    all_gone c.args.layout.now (g.F.File.bytes c.args.file.now) (g.F.File.bytes c.loop-i.file) c.args.lanes.now c.loop-i.lanes c.next_lane.new.lanes c.loop-i.keys.items (code.Malformed c.in-Ok-Malformed.cut)
    c.loop-i.invariant.keeps.bytes (λ i e. let h : code.Malformed c.in-Ok-Malformed.cut ≡ code.Lane i = e in cc) (c.next_lane.ensures.loads.layouts c.args.layout.now c.loop-i.invariant.layouts) c.next_lane.ensures.loads.parts c.loop-i.invariant.parts c.loop-i.invariant.gone c.next_lane.ensures.loads.rows (next_is _ _ c.next_lane.new.lanes c.in-Ok-Malformed.field-0-is c.in-Ok-Malformed.ensures.next)
