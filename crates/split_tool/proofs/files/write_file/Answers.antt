use Rattle.std.proofs.Common.{List, Result, ap, sym, subst, ◌∙◌, length}
use Rattle.std.proofs.lemmas.List.{take_at}
use Rattle.trace_base.specs.declared.part.Part.{Part}
use Rattle.trace_outside.specs.Writing.{Gained}
use Rattle.time_merge.specs.declared.ending.End.{End}
use Rattle.time_merge.specs.declared.ending.IoFault.{IoFault}
use Rattle.time_merge.specs.declared.ending.IoFault.TheVariants as fault
use Rattle.event_cursor.proofs.Told.{told_map}
use Rattle.split_passes.specs.AllAgain.{TellsHeld, owns}
use Rattle.split_passes.proofs.AllPacked.{gains_more}
use Rattle.split_tool.specs.Lists.{lanes_of}
use Rattle.split_tool.specs.NewFile.{front_text}
use Rattle.split_tool.proofs.Flat.{parts_kept}
use Rattle.split_tool.proofs.Making.{still_cut}
use Rattle.split_tool.proofs.Packing.{all_kept}
use Rattle.split_tool.proofs.Preparing.{done_by, fails_by, stops_by, written_all}
use Rattle.split_tool.specs.declared.unmade.Unmade.TheVariants as unmade
use Rattle.split_tool.proofs.Spending.{same_to_read}
use Rattle.split_tool.proofs.files.write_file.Goals as goal

pub returns-clause-told : goal.returns-clause-told
returns-clause-told g c =
    let header = c.args.plan.now.header.now in
    let work = c.args.work.now in
    let lists = c.args.lists.now in
    let old = g.O.Sink.written c.args.out.now in
    let mid = g.O.Sink.written c.write_front.new.out in
    let front = subst (λ (ps : List Part). Gained old mid (front_text header ps)) c.as_slice.ensures.value c.in-Ok.ensures.gained in
    told_map _ _ (g.F.File.bytes c.args.file.now) (λ file p s taken f.
    written_all header file work.table.items (owns (lanes_of lists) taken) (lanes_of lists) (lanes_of c.pack_lists.new.lists) old mid (g.O.Sink.written c.pack_lists.new.out) c.pack_lists.result c.made_by.result c.made_by.ensures front (p s taken f))
    c.pack_lists.ensures.told

pub returns-clause-left : goal.returns-clause-left
returns-clause-left g c =
    done_by _ c.pack_lists.result c.made_by.result c.made_by.ensures
    (λ done. same_to_read (g.F.File.size c.args.file.now) (lanes_of c.args.lists.now) (lanes_of c.pack_lists.new.lists) (c.pack_lists.ensures.numbers done))

pub returns-clause-gains : goal.returns-clause-gains
returns-clause-gains g c =
    done_by _ c.pack_lists.result c.made_by.result c.made_by.ensures (λ done.
    gains_more (g.O.Sink.written c.args.out.now) (g.O.Sink.written c.write_front.new.out) (g.O.Sink.written c.pack_lists.new.out)
    (front_text c.args.plan.now.header.now c.as_slice.result.now, c.in-Ok.ensures.gained) (c.pack_lists.ensures.gains done))

pub returns-clause-parts : goal.returns-clause-parts
returns-clause-parts g c = parts_kept c.args.lists.now c.pack_lists.new.lists c.pack_lists.ensures.long (all_kept c.args.lists.now c.pack_lists.new.lists c.pack_lists.ensures.kept)

pub returns-clause-cut : goal.returns-clause-cut
returns-clause-cut g c =
    let now = c.pack_lists.new.lists in
    let for = c.requires.lent in
    let room = ap length (sym c.as_mut_slice.ensures.value) ∙ c.as_mut_slice.ensures.len in
    still_cut c.args.plan.now.rules c.args.plan.now.header.now c.args.lists.now now c.args.work.now _ c.pack_lists.ensures.long (all_kept c.args.lists.now now c.pack_lists.ensures.kept)
    (record {
      table = for.table;
      page = ap length (take_at c.pack_lists.new.page _ c.args.work.now.page.len (c.pack_lists.ensures.whole ∙ sym for.page ∙ room)) ∙ c.pack_lists.ensures.whole;
      before = for.before;
      at = for.at;
    }) c.requires

pub returns-clause-malformed : goal.returns-clause-malformed
returns-clause-malformed g c =
    stops_by (λ (end : Result End IoFault). TellsHeld (lanes_of c.pack_lists.new.lists) end) c.pack_lists.result c.made_by.result c.made_by.ensures c.pack_lists.ensures.malformed

pub returns-clause-read : goal.returns-clause-read
returns-clause-read g c = fails_by _ (unmade.Fault fault.Read) c.pack_lists.result c.made_by.result c.made_by.ensures c.pack_lists.ensures.read
