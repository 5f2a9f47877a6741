use Rattle.std.proofs.Common.{◌≡◌, ◌≤◌, List, length, Ok, ap, sym, ◌∙◌}
use Rattle.std.specs.Option.{IfSome}
use Rattle.std.specs.List.{All}
use Rattle.trace_outside.specs.Causes.{raised}
use Rattle.subpage.specs.ItemData.{ItemData}
use Rattle.page_pool.specs.declared.lane.Lane.{Lane}
use Rattle.event_cursor.specs.Standing.{Stands}
use Rattle.time_merge.specs.LaneRows.{HasLayout, parts_of}
use Rattle.time_merge.specs.declared.ending.End.TheVariants as code
use Rattle.split_passes.specs.AllAgain.{AreFronts, IsPackedAll, TellsStop}
use Rattle.split_passes.specs.Reads.{all_packing, numbers_of}
use Rattle.split_passes.proofs.Lent.{lent}
use Rattle.split_passes.proofs.list.pack_in.Goals as goal

pub returns-clause-layouts : goal.returns-clause-layouts
returns-clause-layouts g c =
    lent (λ (a b : List Lane). All (HasLayout c.args.layout.now) b) c.args.pool.now c.lanes.result.now c.pack_all.new.lanes c.lanes.ensures.value c.pack_all.ensures.parts c.pack_all.ensures.layouts

pub returns-clause-parts : goal.returns-clause-parts
returns-clause-parts g c =
    lent (λ (a b : List Lane). parts_of b ≡ parts_of a) c.args.pool.now c.lanes.result.now c.pack_all.new.lanes c.lanes.ensures.value c.pack_all.ensures.parts c.pack_all.ensures.parts

pub returns-clause-told : goal.returns-clause-told
returns-clause-told g c =
    let l = c.args.layout.now in
    lent (λ (a b : List Lane). IfSome (g.F.File.bytes c.args.file.now) (λ file. All (Stands file) a → (lists : List (List ItemData)) → AreFronts file a c.args.fronts.now c.args.tallies.now lists
    → IsPackedAll l file lists (record { lanes = a; written = g.O.Sink.written c.args.out.now }) (record { lanes = b; written = g.O.Sink.written c.pack_all.new.out }) c.pack_all.result))
    c.args.pool.now c.lanes.result.now c.pack_all.new.lanes c.lanes.ensures.value c.pack_all.ensures.parts c.pack_all.ensures.told

pub returns-clause-malformed : goal.returns-clause-malformed
returns-clause-malformed g c =
    lent (λ (a b : List Lane). TellsStop a b c.pack_all.result) c.args.pool.now c.lanes.result.now c.pack_all.new.lanes c.lanes.ensures.value c.pack_all.ensures.parts c.pack_all.ensures.malformed

pub returns-clause-numbers : goal.returns-clause-numbers
returns-clause-numbers g c =
    lent (λ (a b : List Lane). c.pack_all.result ≡ Ok code.Done → numbers_of b ≡ numbers_of a) c.args.pool.now c.lanes.result.now c.pack_all.new.lanes c.lanes.ensures.value c.pack_all.ensures.parts c.pack_all.ensures.numbers

pub returns-clause-reads : goal.returns-clause-reads
returns-clause-reads g c =
    lent (λ (a b : List Lane). g.F.File.reads c.pack_all.new.file ≤ raised (g.F.File.reads c.args.file.now) (all_packing (g.F.File.size c.args.file.now) a c.args.fronts.now c.args.tallies.now))
    c.args.pool.now c.lanes.result.now c.pack_all.new.lanes c.lanes.ensures.value c.pack_all.ensures.parts c.pack_all.ensures.reads

pub pack_all-requires-clause-fronts : goal.pack_all-requires-clause-fronts
pack_all-requires-clause-fronts g c = c.requires.fronts ∙ ap length (sym c.lanes.ensures.value)

pub pack_all-requires-clause-tallies : goal.pack_all-requires-clause-tallies
pack_all-requires-clause-tallies g c = c.requires.tallies ∙ ap length (sym c.lanes.ensures.value)
