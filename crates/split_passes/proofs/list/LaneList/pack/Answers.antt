use Rattle.std.proofs.Common.{◌≡◌, ◌≤◌, List, length, Ok, ap, subst, sym, ◌∙◌}
use Rattle.std.specs.Option.{IfSome}
use Rattle.std.specs.List.{All}
use Rattle.trace_outside.specs.Causes.{raised}
use Rattle.subpage.specs.Arrangement.{CpusRise}
use Rattle.subpage.specs.ItemData.{ItemData}
use Rattle.event_cursor.specs.Standing.{Stands}
use Rattle.event_cursor.specs.declared.places.Place.{Place}
use Rattle.time_merge.specs.LaneRows.{parts_of}
use Rattle.time_merge.specs.declared.ending.End.TheVariants as code
use Rattle.time_merge.proofs.Advancing.{same_length}
use Rattle.split_passes.specs.AllAgain.{AreFronts, IsPackedAll, TellsStop}
use Rattle.split_passes.specs.ListSeen.{ListSeen}
use Rattle.split_passes.specs.Reads.{all_packing, numbers_of}
use Rattle.split_passes.specs.declared.tally.Tally.{Tally}
use Rattle.split_passes.proofs.list.LaneList.pack.Goals as goal

pub pack_in-requires-clause-whole : goal.pack_in-requires-clause-whole
pack_in-requires-clause-whole g c = c.requires.whole ∙ sym (ap (λ (v : ListSeen). v.layout.page) c.self.view_is)

pub pack_in-requires-clause-fronts : goal.pack_in-requires-clause-fronts
pack_in-requires-clause-fronts g c = ap length c.as_slice.ensures.value ∙ c.self.invariant.fronts_long

pub pack_in-requires-clause-tallies : goal.pack_in-requires-clause-tallies
pack_in-requires-clause-tallies g c = ap length c.as_slice-2.ensures.value ∙ c.self.invariant.tallies_long

pub invariant_of-self : goal.invariant_of-self
invariant_of-self g c =
    let made = c.pack_in.ensures in
    let same = sym (same_length c.pack_in.new.pool c.self.inside.pool made.parts) in
    record {
      layouts = made.layouts;
      rise = subst CpusRise (sym made.parts) c.self.invariant.rise;
      slots = c.self.invariant.slots ∙ same;
      fronts_long = c.self.invariant.fronts_long ∙ same;
      tallies_long = c.self.invariant.tallies_long ∙ same;
    }

pub returns-clause-kept : goal.returns-clause-kept
returns-clause-kept g c = ap (λ (v : ListSeen). record v { all = c.pack_in.new.pool }) c.self.view_is

pub returns-clause-parts : goal.returns-clause-parts
returns-clause-parts g c = c.pack_in.ensures.parts ∙ ap (λ (v : ListSeen). parts_of v.all) c.self.view_is

pub returns-clause-fronts_long : goal.returns-clause-fronts_long
returns-clause-fronts_long g c = subst (λ (v : ListSeen). length v.fronts ≡ length v.all) c.self.view_is c.self.invariant.fronts_long

pub returns-clause-tallies_long : goal.returns-clause-tallies_long
returns-clause-tallies_long g c = subst (λ (v : ListSeen). length v.tallies ≡ length v.all) c.self.view_is c.self.invariant.tallies_long

pub returns-clause-whole : goal.returns-clause-whole
returns-clause-whole g c = c.pack_in.ensures.whole ∙ ap (λ (v : ListSeen). v.layout.page) c.self.view_is

pub returns-clause-told : goal.returns-clause-told
returns-clause-told g c =
    let Goal : ListSeen → List Place → List Tally → Type 0 = λ v ps ts. IfSome (g.F.File.bytes c.args.file.now) (λ file. All (Stands file) v.all → (lists : List (List ItemData)) → AreFronts file v.all ps ts lists
    → IsPackedAll v.layout file lists (record { lanes = v.all; written = g.O.Sink.written c.args.out.now }) (record { lanes = c.pack_in.new.pool; written = g.O.Sink.written c.pack_in.new.out }) c.pack_in.result) in
    let seen : ListSeen = record { layout = c.self.inside.layout; all = c.self.inside.pool; fronts = c.self.inside.fronts.items; tallies = c.self.inside.tallies.items } in
    subst (λ (v : ListSeen). Goal v v.fronts v.tallies) c.self.view_is
    (subst (λ (ps : List Place). Goal seen ps c.self.inside.tallies.items) c.as_slice.ensures.value
    (subst (λ (ts : List Tally). Goal seen c.as_slice.result.now ts) c.as_slice-2.ensures.value c.pack_in.ensures.told))

pub returns-clause-malformed : goal.returns-clause-malformed
returns-clause-malformed g c = subst (λ (v : ListSeen). TellsStop v.all c.pack_in.new.pool c.pack_in.result) c.self.view_is c.pack_in.ensures.malformed

pub returns-clause-numbers : goal.returns-clause-numbers
returns-clause-numbers g c = subst (λ (v : ListSeen). c.pack_in.result ≡ Ok code.Done → numbers_of c.pack_in.new.pool ≡ numbers_of v.all) c.self.view_is c.pack_in.ensures.numbers

pub returns-clause-reads : goal.returns-clause-reads
returns-clause-reads g c =
    let Goal : ListSeen → List Place → List Tally → Type 0 = λ v ps ts. g.F.File.reads c.pack_in.new.file ≤ raised (g.F.File.reads c.args.file.now) (all_packing (g.F.File.size c.args.file.now) v.all ps ts) in
    let seen : ListSeen = record { layout = c.self.inside.layout; all = c.self.inside.pool; fronts = c.self.inside.fronts.items; tallies = c.self.inside.tallies.items } in
    subst (λ (v : ListSeen). Goal v v.fronts v.tallies) c.self.view_is
    (subst (λ (ps : List Place). Goal seen ps c.self.inside.tallies.items) c.as_slice.ensures.value
    (subst (λ (ts : List Tally). Goal seen c.as_slice.result.now ts) c.as_slice-2.ensures.value c.pack_in.ensures.reads))
