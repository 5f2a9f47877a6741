use Rattle.std.proofs.Common.{◌≡◌, [], List, length, ap, subst, sym, ◌∙◌}
use Rattle.std.specs.Option.{IfSome}
use Rattle.std.specs.Result.{IfOk, OnOk}
use Rattle.std.specs.List.{All}
use Rattle.std.proofs.lemmas.List.{take_at}
use Rattle.page_pool.specs.Lending.{written}
use Rattle.page_pool.specs.declared.lane.Lane.{Lane}
use Rattle.event_cursor.specs.Standing.{Stands}
use Rattle.time_merge.specs.LaneRows.{IsReady}
use Rattle.time_merge.proofs.Advancing.{same_length}
use Rattle.split_passes.specs.Measures.{IsMeasured, SkipsOver, Tallied}
use Rattle.split_passes.specs.Through.{GoThrough}
use Rattle.split_passes.specs.declared.tally.Tally.{Tally}
use Rattle.split_passes.proofs.Lent.{lent, lent_is}
use Rattle.split_passes.proofs.list.measure_in.Goals as goal

pub measure-requires-clause-long : goal.measure-requires-clause-long
measure-requires-clause-long g c = ap length c.as_mut_slice.ensures.value ∙ c.requires.long ∙ sym (ap length c.lanes.ensures.value)

pub returns-clause-through : goal.returns-clause-through
returns-clause-through g c =
    lent (GoThrough g.F.File c.args.file.now c.measure.new.file) c.args.pool.now c.lanes.result.now c.measure.new.lanes c.lanes.ensures.value c.measure.ensures.through.parts c.measure.ensures.through

pub returns-clause-long : goal.returns-clause-long
returns-clause-long g c =
    let pool = lent_is c.args.pool.now c.lanes.result.now c.measure.new.lanes c.lanes.ensures.value c.measure.ensures.through.parts in
    let lanes : length c.measure.new.lanes ≡ length c.args.pool.now = same_length c.measure.new.lanes c.lanes.result.now c.measure.ensures.through.parts ∙ ap length c.lanes.ensures.value in
    let room : length c.args.tallies.now.items ≡ c.args.tallies.now.len = ap length (sym c.as_mut_slice.ensures.value) ∙ c.as_mut_slice.ensures.len in
    let long : length c.measure.new.tallies ≡ c.args.tallies.now.len = c.measure.ensures.long ∙ lanes ∙ sym c.requires.long ∙ room in
    ap length (take_at c.measure.new.tallies _ c.args.tallies.now.len long) ∙ c.measure.ensures.long ∙ sym (ap length pool)

pub returns-clause-measured : goal.returns-clause-measured
returns-clause-measured g c =
    let lanes : length c.measure.new.lanes ≡ length c.args.pool.now = same_length c.measure.new.lanes c.lanes.result.now c.measure.ensures.through.parts ∙ ap length c.lanes.ensures.value in
    let room : length c.args.tallies.now.items ≡ c.args.tallies.now.len = ap length (sym c.as_mut_slice.ensures.value) ∙ c.as_mut_slice.ensures.len in
    let long : length c.measure.new.tallies ≡ c.args.tallies.now.len = c.measure.ensures.long ∙ lanes ∙ sym c.requires.long ∙ room in
    let Goal : List Lane → List Lane → List Tally → List Tally → Type 0 = λ a b before now. IfOk c.measure.result (λ end. IfSome (g.F.File.bytes c.args.file.now) (λ file. All (Stands file) a → Tallied a [] before
    → IsMeasured file c.args.stop (record { gauge = c.args.gauge.now; lanes = a }) (record { gauge = c.measure.new.gauge; lanes = b }) now end)) in
    subst (λ (ts : List Tally). Goal c.args.pool.now (written c.args.pool.now c.measure.new.lanes) c.args.tallies.now.items ts) (sym (take_at c.measure.new.tallies _ c.args.tallies.now.len long))
    (lent (λ (a b : List Lane). Goal a b c.args.tallies.now.items c.measure.new.tallies) c.args.pool.now c.lanes.result.now c.measure.new.lanes c.lanes.ensures.value c.measure.ensures.through.parts
    (subst (λ (ts : List Tally). Goal c.lanes.result.now c.measure.new.lanes ts c.measure.new.tallies) c.as_mut_slice.ensures.value c.measure.ensures.measured))

pub returns-clause-ready : goal.returns-clause-ready
returns-clause-ready g c =
    lent (λ (a b : List Lane). OnOk c.measure.result (All IsReady b)) c.args.pool.now c.lanes.result.now c.measure.new.lanes c.lanes.ensures.value c.measure.ensures.through.parts c.measure.ensures.ready

pub returns-clause-over : goal.returns-clause-over
returns-clause-over g c =
    let lanes : length c.measure.new.lanes ≡ length c.args.pool.now = same_length c.measure.new.lanes c.lanes.result.now c.measure.ensures.through.parts ∙ ap length c.lanes.ensures.value in
    let room : length c.args.tallies.now.items ≡ c.args.tallies.now.len = ap length (sym c.as_mut_slice.ensures.value) ∙ c.as_mut_slice.ensures.len in
    let long : length c.measure.new.tallies ≡ c.args.tallies.now.len = c.measure.ensures.long ∙ lanes ∙ sym c.requires.long ∙ room in
    subst (λ (ts : List Tally). SkipsOver c.args.pool.now c.args.tallies.now.items ts) (sym (take_at c.measure.new.tallies _ c.args.tallies.now.len long))
    (subst (λ (ts : List Tally). SkipsOver c.args.pool.now ts c.measure.new.tallies) c.as_mut_slice.ensures.value
    (subst (λ (lanes : List Lane). SkipsOver lanes c.as_mut_slice.result.now c.measure.new.tallies) c.lanes.ensures.value c.measure.ensures.over))
