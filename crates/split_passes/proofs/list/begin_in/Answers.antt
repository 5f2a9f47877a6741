use Rattle.std.proofs.Common.{◌≡◌, [], arith, List, length, ap, subst, sym, ◌∙◌}
use Rattle.std.specs.List.{All}
use Rattle.std.proofs.lemmas.List.{take_at}
use Rattle.page_pool.specs.declared.lane.Lane.{Lane}
use Rattle.time_merge.specs.LaneRows.{IsReady}
use Rattle.time_merge.specs.Loading.{LoadsLanes}
use Rattle.time_merge.proofs.Advancing.{same_length}
use Rattle.split_passes.specs.Tallies.{IsTally}
use Rattle.split_passes.specs.declared.tally.Tally.{Tally}
use Rattle.split_passes.proofs.Lent.{lent, lent_is, noted_there}
use Rattle.split_passes.proofs.list.begin_in.Goals as goal

pub returns-in_err-make_all_ready-clause-loads : goal.returns-in_err-make_all_ready-clause-loads
returns-in_err-make_all_ready-clause-loads g c =
    let loads = c.make_all_ready.ensures.loads in
    lent (LoadsLanes g.F.File c.args.file.now c.make_all_ready.new.file) c.args.pool.now c.lanes.result.now c.make_all_ready.new.lanes c.lanes.ensures.value loads.parts loads

pub returns-in_err-make_all_ready-clause-fronts_long : goal.returns-in_err-make_all_ready-clause-fronts_long
returns-in_err-make_all_ready-clause-fronts_long g c =
    let parts = c.make_all_ready.ensures.loads.parts in
    c.requires.fronts_long ∙ ap length (sym c.lanes.ensures.value) ∙ sym (same_length c.make_all_ready.new.lanes c.lanes.result.now parts)
    ∙ sym (ap length (lent_is c.args.pool.now c.lanes.result.now c.make_all_ready.new.lanes c.lanes.ensures.value parts))

pub returns-in_err-make_all_ready-clause-tallies_long : goal.returns-in_err-make_all_ready-clause-tallies_long
returns-in_err-make_all_ready-clause-tallies_long g c =
    let parts = c.make_all_ready.ensures.loads.parts in
    c.requires.tallies_long ∙ ap length (sym c.lanes.ensures.value) ∙ sym (same_length c.make_all_ready.new.lanes c.lanes.result.now parts)
    ∙ sym (ap length (lent_is c.args.pool.now c.lanes.result.now c.make_all_ready.new.lanes c.lanes.ensures.value parts))

pub note_fronts-requires : goal.note_fronts-requires
note_fronts-requires g c =
    let parts = c.make_all_ready.ensures.loads.parts in
    ap length c.as_mut_slice.ensures.value ∙ c.requires.fronts_long ∙ ap length (sym c.lanes.ensures.value) ∙ sym (same_length c.make_all_ready.new.lanes c.lanes.result.now parts)
    ∙ sym (ap length (lent_is c.args.pool.now c.lanes.result.now c.make_all_ready.new.lanes c.lanes.ensures.value parts)) ∙ sym (ap length c.all.ensures)

pub returns-clause-loads : goal.returns-clause-loads
returns-clause-loads g c =
    let loads = c.make_all_ready.ensures.loads in
    lent (LoadsLanes g.F.File c.args.file.now c.make_all_ready.new.file) c.args.pool.now c.lanes.result.now c.make_all_ready.new.lanes c.lanes.ensures.value loads.parts loads

pub returns-clause-ready : goal.returns-clause-ready
returns-clause-ready g c =
    lent (λ (a b : List Lane). All IsReady b) c.args.pool.now c.lanes.result.now c.make_all_ready.new.lanes c.lanes.ensures.value c.make_all_ready.ensures.loads.parts c.in_ok-make_all_ready.ensures.ready

pub returns-clause-noted : goal.returns-clause-noted
returns-clause-noted g c =
    let parts = c.make_all_ready.ensures.loads.parts in
    let given = ap length c.as_mut_slice.ensures.value in
    let room : length c.note_fronts.new.fronts ≡ c.args.fronts.now.len = c.note_fronts.ensures.long ∙ ap length c.all.ensures
    ∙ ap length (lent_is c.args.pool.now c.lanes.result.now c.make_all_ready.new.lanes c.lanes.ensures.value parts) ∙ same_length c.make_all_ready.new.lanes c.lanes.result.now parts
    ∙ ap length c.lanes.ensures.value ∙ sym c.requires.fronts_long ∙ sym given ∙ c.as_mut_slice.ensures.len in
    noted_there _ _ c.note_fronts.new.fronts _ c.all.ensures (take_at c.note_fronts.new.fronts _ c.args.fronts.now.len room) c.note_fronts.ensures.noted

pub returns-clause-fronts_long : goal.returns-clause-fronts_long
returns-clause-fronts_long g c =
    let parts = c.make_all_ready.ensures.loads.parts in
    let given = ap length c.as_mut_slice.ensures.value in
    let room : length c.note_fronts.new.fronts ≡ c.args.fronts.now.len = c.note_fronts.ensures.long ∙ ap length c.all.ensures
    ∙ ap length (lent_is c.args.pool.now c.lanes.result.now c.make_all_ready.new.lanes c.lanes.ensures.value parts) ∙ same_length c.make_all_ready.new.lanes c.lanes.result.now parts
    ∙ ap length c.lanes.ensures.value ∙ sym c.requires.fronts_long ∙ sym given ∙ c.as_mut_slice.ensures.len in
    ap length (take_at c.note_fronts.new.fronts _ c.args.fronts.now.len room) ∙ c.note_fronts.ensures.long ∙ ap length c.all.ensures

pub returns-clause-none : goal.returns-clause-none
returns-clause-none g c =
    let room : length c.clear.new.tallies ≡ c.args.tallies.now.len = c.clear.ensures.long ∙ c.as_mut_slice-2.ensures.len in
    λ layout. subst (λ (ts : List Tally). All (λ (t : Tally). IsTally layout t []) ts) (sym (take_at c.clear.new.tallies _ c.args.tallies.now.len room))
    (λ i t lt. c.clear.ensures.none layout i t (omega (arith, lt, c.clear.ensures.long)))

pub returns-clause-tallies_long : goal.returns-clause-tallies_long
returns-clause-tallies_long g c =
    let parts = c.make_all_ready.ensures.loads.parts in
    let room : length c.clear.new.tallies ≡ c.args.tallies.now.len = c.clear.ensures.long ∙ c.as_mut_slice-2.ensures.len in
    ap length (take_at c.clear.new.tallies _ c.args.tallies.now.len room) ∙ c.clear.ensures.long ∙ ap length c.as_mut_slice-2.ensures.value ∙ c.requires.tallies_long ∙ ap length (sym c.lanes.ensures.value)
    ∙ sym (same_length c.make_all_ready.new.lanes c.lanes.result.now parts) ∙ sym (ap length (lent_is c.args.pool.now c.lanes.result.now c.make_all_ready.new.lanes c.lanes.ensures.value parts))
