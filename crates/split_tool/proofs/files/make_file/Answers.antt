use Rattle.std.proofs.Common.{inl, refl, ◌∙◌, arith}
use Rattle.trace_outside.specs.Seen.{folder_seen}
use Rattle.event_cursor.proofs.Told.{told_all, told_again}
use Rattle.split_tool.specs.Names.{file_name}
use Rattle.split_passes.specs.AllAgain.{owns}
use Rattle.split_tool.specs.Lists.{lanes_of}
use Rattle.split_tool.specs.Measured.{taken_of}
use Rattle.split_tool.specs.Unmaking.{ending_of}
use Rattle.split_tool.proofs.Budget.{written_stops, written_spent}
use Rattle.split_tool.proofs.Making.{finished}
use Rattle.split_tool.proofs.Storing.{leaves_same}
use Rattle.split_tool.proofs.Numbering.{asked_by, asks_for_it, cut_off, finished_is, stopped_by}
use Rattle.new_files.proofs.Unmade.{unmade_finish}
use Rattle.split_tool.proofs.files.make_file.Goals as goal

pub returns-in-Ok-finish_file-clause-told : goal.returns-in-Ok-finish_file-clause-told
returns-in-Ok-finish_file-clause-told g c =
    let header = c.args.plan.now.header.now in
    let work = c.measure_file.new.work in
    told_again _ _ _ (g.F.File.bytes c.args.file.now) (g.F.File.bytes c.measure_file.new.file) c.measure_file.ensures.keeps.bytes (λ file m w s small.
    let p = m s small in
    finished header file c.args.plan.now.rules (file_name c.args.plan.now.base.now c.args.number) (g.D.Out.Sink.name c.write_file.new.out) c.args.lists.now c.measure_file.new.lists c.write_file.new.lists work.table.items
    (g.D.Folder.files c.args.folder.now) (g.D.Folder.files c.create_file.new.self) (g.D.Folder.files c.finish_file.new.self)
    (g.D.Out.Sink.written c.in-Ok-create_file.out) (g.D.Out.Sink.written c.write_file.new.out) c.in-Ok.ends
    c.in-Ok-create_file.ensures.files (c.write_file.ensures.keeps_out.name ∙ c.in-Ok-create_file.ensures.named ∙ c.as_str.ensures.value ∙ c.put_name.ensures) c.in-Ok-create_file.ensures.empty c.in-Ok-finish_file.ensures.stored
    p (w p.left.stands (taken_of file c.args.plan.now.rules (lanes_of c.args.lists.now)) p.fronts_are))
    c.in-Ok.ensures.told c.in-Ok-write_file.ensures.told

pub returns-in-Err-finish_file-clause-told : goal.returns-in-Err-finish_file-clause-told
returns-in-Err-finish_file-clause-told g c = told_all _ (g.F.File.bytes c.args.file.now) (λ file stands small. tt)

pub returns-in-Ok-finish_file-clause-leaves : goal.returns-in-Ok-finish_file-clause-leaves
returns-in-Ok-finish_file-clause-leaves g c =
    finished_is (g.D.Folder.files c.args.folder.now) (g.D.Folder.files c.create_file.new.self) (g.D.Folder.files c.finish_file.new.self) (g.D.Out.Sink.written c.in-Ok-create_file.out) (g.D.Out.Sink.written c.write_file.new.out)
    (file_name c.args.plan.now.base.now c.args.number) (g.D.Out.Sink.name c.write_file.new.out)
    c.in-Ok-create_file.ensures.files (c.write_file.ensures.keeps_out.name ∙ c.in-Ok-create_file.ensures.named ∙ c.as_str.ensures.value ∙ c.put_name.ensures) c.in-Ok-create_file.ensures.empty c.in-Ok-write_file.ensures.gains
    c.in-Ok-finish_file.ensures.stored

pub returns-in-Err-finish_file-clause-leaves : goal.returns-in-Err-finish_file-clause-leaves
returns-in-Err-finish_file-clause-leaves g c =
    unmade_finish _ _ _ (file_name c.args.plan.now.base.now c.args.number) (g.D.Out.Sink.name c.write_file.new.out) (g.D.Folder.files c.args.folder.now) (g.D.Folder.files c.create_file.new.self) (g.D.Folder.files c.finish_file.new.self)
    c.in-Ok-create_file.ensures.files (c.write_file.ensures.keeps_out.name ∙ c.in-Ok-create_file.ensures.named ∙ c.as_str.ensures.value ∙ c.put_name.ensures) c.create_file.ensures.counts.unfinished c.in-Err-finish_file.ensures.counts.unfinished c.in-Err-finish_file.ensures.others

pub returns-in-Ok-finish_file-clause-requested : goal.returns-in-Ok-finish_file-clause-requested
returns-in-Ok-finish_file-clause-requested g c =
    asked_by (file_name c.args.plan.now.base.now c.args.number) _ (g.D.Folder.requested c.args.folder.now) (g.D.Folder.requested c.create_file.new.self) (g.D.Folder.requested c.finish_file.new.self)
    (c.as_str.ensures.value ∙ c.put_name.ensures) c.create_file.ensures.requested c.finish_file.ensures.requested

pub returns-in-Err-finish_file-clause-requested : goal.returns-in-Err-finish_file-clause-requested
returns-in-Err-finish_file-clause-requested g c =
    asked_by (file_name c.args.plan.now.base.now c.args.number) _ (g.D.Folder.requested c.args.folder.now) (g.D.Folder.requested c.create_file.new.self) (g.D.Folder.requested c.finish_file.new.self)
    (c.as_str.ensures.value ∙ c.put_name.ensures) c.create_file.ensures.requested c.finish_file.ensures.requested

pub returns-in_default-create_file-clause-requested : goal.returns-in_default-create_file-clause-requested
returns-in_default-create_file-clause-requested g c =
    asked_by (file_name c.args.plan.now.base.now c.args.number) _ (g.D.Folder.requested c.args.folder.now) (g.D.Folder.requested c.create_file.new.self) (g.D.Folder.requested c.create_file.new.self)
    (c.as_str.ensures.value ∙ c.put_name.ensures) c.create_file.ensures.requested refl

pub returns-in_default-create_file-clause-leaves : goal.returns-in_default-create_file-clause-leaves
returns-in_default-create_file-clause-leaves g c = inl c.create_file.ensures.files

pub returns-in_default-create_file-clause-reads : goal.returns-in_default-create_file-clause-reads
returns-in_default-create_file-clause-reads g c = omega (arith, c.in-Ok.ensures.reads.less, c.in-Ok.ensures.reads.reads)

pub returns-in-Ok-finish_file-clause-reads : goal.returns-in-Ok-finish_file-clause-reads
returns-in-Ok-finish_file-clause-reads g c =
    written_spent (g.F.File.size c.args.file.now) (g.F.File.size c.measure_file.new.file) (lanes_of c.args.lists.now) c.measure_file.new.lists _ _ _
    c.measure_file.ensures.keeps.size c.in-Ok.ensures.reads c.write_file.ensures.reads (lanes_of c.write_file.new.lists) c.in-Ok-write_file.ensures.left

pub returns-in-Err-finish_file-clause-reads : goal.returns-in-Err-finish_file-clause-reads
returns-in-Err-finish_file-clause-reads g c =
    written_stops (g.F.File.size c.args.file.now) (g.F.File.size c.measure_file.new.file) (lanes_of c.args.lists.now) c.measure_file.new.lists _ _ _
    c.measure_file.ensures.keeps.size c.in-Ok.ensures.reads c.write_file.ensures.reads

-- THE FILE IS CUT OFF

pub returns-in-Err-clause-told : goal.returns-in-Err-clause-told
returns-in-Err-clause-told g c =
    let header = c.args.plan.now.header.now in
    let work = c.measure_file.new.work in
    told_again _ _ _ (g.F.File.bytes c.args.file.now) (g.F.File.bytes c.measure_file.new.file) c.measure_file.ensures.keeps.bytes (λ file m w s small.
    let p = m s small in
    stopped_by (record { header = header; rules = c.args.plan.now.rules; name = file_name c.args.plan.now.base.now c.args.number }) header file work.table.items (owns (lanes_of c.measure_file.new.lists) (taken_of file c.args.plan.now.rules (lanes_of c.args.lists.now)))
    (record { lanes = lanes_of c.measure_file.new.lists; written = g.D.Out.Sink.written c.in-Ok-create_file.out }) (record { lanes = lanes_of c.write_file.new.lists; written = g.D.Out.Sink.written c.write_file.new.out })
    (record { lanes = lanes_of c.args.lists.now; files = g.D.Folder.files c.args.folder.now }) (record { lanes = lanes_of c.write_file.new.lists; files = g.D.Folder.files c.drop_file.new.self }) c.write_file.result c.in-Err.unmade c.in-Err.is
    (w p.left.stands (taken_of file c.args.plan.now.rules (lanes_of c.args.lists.now)) p.fronts_are))
    c.in-Ok.ensures.told c.write_file.ensures.told

pub returns-in-Err-clause-leaves : goal.returns-in-Err-clause-leaves
returns-in-Err-clause-leaves g c =
    cut_off (file_name c.args.plan.now.base.now c.args.number) (lanes_of c.write_file.new.lists) (folder_seen g.D.Folder c.args.folder.now) (folder_seen g.D.Folder c.drop_file.new.self) c.in-Err.unmade
    c.in-Err.ensures.malformed (c.drop_file.ensures.files ∙ c.in-Ok-create_file.ensures.files)

pub returns-in-Err-clause-requested : goal.returns-in-Err-clause-requested
returns-in-Err-clause-requested g c =
    let name = file_name c.args.plan.now.base.now c.args.number in
    asks_for_it name (g.D.Folder.requested c.args.folder.now) (g.D.Folder.requested c.drop_file.new.self) c.in-Err.unmade
    (asked_by name _ (g.D.Folder.requested c.args.folder.now) (g.D.Folder.requested c.create_file.new.self) (g.D.Folder.requested c.drop_file.new.self)
    (c.as_str.ensures.value ∙ c.put_name.ensures) c.create_file.ensures.requested c.drop_file.ensures.requested)

pub returns-in-Err-clause-counts : goal.returns-in-Err-clause-counts
returns-in-Err-clause-counts g c =
    let created = c.in-Ok-create_file.ensures.counts in
    let dropped = c.drop_file.ensures.counts in
    record {
      keeps = record {
        reading = omega (arith, created.reading, dropped.reading);
        writing = omega (arith, created.writing, dropped.writing);
        unfinished = omega (arith, created.unfinished, dropped.unfinished);
        misses = dropped.use_kept.misses ∙ created.misses;
        opened = dropped.use_kept.opened ∙ created.opened;
        closed = dropped.use_kept.closed ∙ created.closed;
        bytes = dropped.use_kept.bytes ∙ created.bytes;
      };
      created = omega (arith, created.created, dropped.use_kept.created);
      unfinished = leaves_same (ending_of c.in-Err.unmade) _ _ (dropped.unfinished ∙ created.unfinished);
      writing = λ is.
          let rose = c.in-Err.ensures.write is in
          let later = dropped.faulty (omega (arith, rose)) in
          omega (arith, created.writing, later);
    }

pub returns-in-Err-clause-reads : goal.returns-in-Err-clause-reads
returns-in-Err-clause-reads g c =
    written_stops (g.F.File.size c.args.file.now) (g.F.File.size c.measure_file.new.file) (lanes_of c.args.lists.now) c.measure_file.new.lists _ _ _
    c.measure_file.ensures.keeps.size c.in-Ok.ensures.reads c.write_file.ensures.reads
