use Rattle.std.proofs.Common.{◌+◌, ◌-◌, Result, inl, refl, arith, sym, subst, ◌∙◌}
use Rattle.trace_outside.specs.Seen.{folder_seen}
use Rattle.trace_outside.proofs.Keeping.{file_kept}
use Rattle.event_cursor.proofs.Told.{told_all, told_both, told_map, told_again}
use Rattle.split_pieces.specs.Cuts.{bad_reached, file_items}
use Rattle.split_tool.specs.Lists.{lanes_of}
use Rattle.split_tool.proofs.Flat.{go_layouts, goes_kept, own_layouts, parts_flat}
use Rattle.split_tool.specs.Names.{file_name}
use Rattle.new_files.specs.Requested.{names_of}
use Rattle.split_tool.specs.NewFiles.{LeavesUnfinished, new_files}
use Rattle.time_merge.specs.LaneRows.{parts_of}
use Rattle.time_merge.specs.declared.ending.End.{End}
use Rattle.time_merge.specs.declared.ending.IoFault.{IoFault}
use Rattle.time_merge.specs.declared.ending.IoFault.TheVariants as fault
use Rattle.split_tool.proofs.Budget.{loaded_stops, passed_spent, same_spent, spent_all, spent_more, spent_stops, start_less}
use Rattle.split_tool.proofs.Making.{created_last, created_stops, last_counted, progress_none, progress_more, progress_last, progress_stops, fault_is, some_counted, still_lists, fresh_stand}
use Rattle.split_tool.proofs.Numbering.{asked_all, asked_none, asked_stops, finished_all, names_new, numbered_more, numbered_none, stops_there}
use Rattle.split_tool.proofs.Storing.{kept_twice, leaves_since, some_stored, stages_none}
use Rattle.split_tool.proofs.splitting.split.Goals as goal

pub returns-in_default-clause-told : goal.returns-in_default-clause-told
returns-in_default-clause-told g c =
    let old = g.D.Folder.files c.args.folder.now in
    told_all _ (g.F.File.bytes c.args.file.now) (λ file.
    let news = new_files c.args.plan.now.rules c.args.plan.now.base.now c.args.plan.now.header.now file (parts_of (lanes_of c.args.lists.now)) in
    some_stored news news old old old refl (stages_none news old))

pub loop-number-init : goal.loop-number-init
loop-number-init g c =
    let size = g.met.F.File.size_fits c.args.file.now in
    let header = c.args.plan.now.header.now in
    let rules = c.args.plan.now.rules in
    let first = c.args.lists.now in
    let now = c.pass_start.new.lists in
    let go = c.pass_start.ensures.go in
    let parts = parts_flat first now go.long go.each in
    let layouts = own_layouts header.layout first c.requires.lists.layouts c.in-Ok.ensures.layouts in
    record {
      cut = record { allowed = c.requires.allowed; are = still_lists rules header first now go.long (goes_kept first now go.each) c.requires.lists; lent = c.requires.work };
      parts = parts;
      progress = told_both _ _ _ (g.F.File.bytes c.args.file.now) (λ file long started.
          progress_none header c.args.plan.now.base.now rules file (lanes_of first) (lanes_of now) (g.D.Folder.files c.args.folder.now) c.requires.allowed layouts (go_layouts header.layout first now go.long go.each layouts) c.requires.lists.rise c.requires.lists.cpus
          c.requires.fresh parts (omega (arith, long, size)) (started (fresh_stand file (lanes_of first) c.requires.fresh)))
          (g.met.F.File.size_is c.args.file.now) c.in-Ok.ensures.told;
      spent = passed_spent (g.F.File.size c.args.file.now) first now _ _ go.long go.each c.in-Ok.ensures.reads_done go.unread;
      keeps = go.keeps;
      counts = record { reading = omega arith; writing = omega arith; unfinished = omega arith; misses = refl; opened = refl; closed = refl; bytes = refl };
      unfinished = refl;
      numbered = numbered_none c.args.plan.now.base.now _ (folder_seen g.D.Folder c.args.folder.now) (omega arith);
      created = omega arith;
      least = omega arith;
    }

pub returns-then-not-goes_on-clause-told : goal.returns-then-not-goes_on-clause-told
returns-then-not-goes_on-clause-told g c =
    let header = c.args.plan.now.header.now in
    let rules = c.args.plan.now.rules in
    let base = c.args.plan.now.base.now in
    let old = g.D.Folder.files c.args.folder.now in
    let mid = g.D.Folder.files c.loop-number.folder in
    let new = g.D.Folder.files c.make_file.new.folder in
    told_again _ _ _ (g.F.File.bytes c.args.file.now) (g.F.File.bytes c.loop-number.file) c.loop-number.invariant.keeps.bytes (λ file p m.
    let news = new_files rules base header file (parts_of (lanes_of c.args.lists.now)) in
    let bad = bad_reached rules header.layout file (parts_of (lanes_of c.args.lists.now)) in
    progress_last header base file rules news bad c.loop-number.number (lanes_of c.loop-number.lists) (lanes_of c.make_file.new.lists) old mid new c.in-Ok-make_file.ends c.end_by.result (g.D.Folder.counts c.args.folder.now) (g.D.Folder.counts c.make_file.new.folder) (g.D.Folder.requested c.args.folder.now) (g.D.Folder.requested c.make_file.new.folder) (sym c.goes_on.ensures ∙ c.if-not-goes_on.true) c.end_by.ensures
    (m p.stands p.small) p)
    c.loop-number.invariant.progress c.in-Ok-make_file.ensures.told

pub loop-number-preserved : goal.loop-number-preserved
loop-number-preserved g c =
    let header = c.args.plan.now.header.now in
    let rules = c.args.plan.now.rules in
    let base = c.args.plan.now.base.now in
    let old = g.D.Folder.files c.args.folder.now in
    let mid = g.D.Folder.files c.loop-number.folder in
    let new = g.D.Folder.files c.make_file.new.folder in
    record {
      cut = c.make_file.ensures.cut;
      parts = c.make_file.ensures.parts ∙ c.loop-number.invariant.parts;
      progress = told_again _ _ _ (g.F.File.bytes c.args.file.now) (g.F.File.bytes c.loop-number.file) c.loop-number.invariant.keeps.bytes (λ file p m.
          let news = new_files rules base header file (parts_of (lanes_of c.args.lists.now)) in
          let bad = bad_reached rules header.layout file (parts_of (lanes_of c.args.lists.now)) in
          progress_more header base file rules news bad c.loop-number.number (lanes_of c.loop-number.lists) (lanes_of c.make_file.new.lists) old mid new c.in-Ok-make_file.ends c.requires.unit (sym c.goes_on.ensures ∙ c.if-not-goes_on.false)
          (m p.stands p.small) p)
          c.loop-number.invariant.progress c.in-Ok-make_file.ensures.told;
      spent = spent_more _ _ _ _ _ _ c.loop-number.invariant.spent
          (same_spent (g.F.File.size c.args.file.now) (g.F.File.size c.loop-number.file) (lanes_of c.loop-number.lists) (lanes_of c.make_file.new.lists) _ _ c.loop-number.invariant.keeps.size c.in-Ok-make_file.ensures.reads);
      keeps = file_kept c.loop-number.invariant.keeps c.make_file.ensures.keeps;
      counts = kept_twice _ _ _ c.loop-number.invariant.counts c.make_file.ensures.counts.keeps;
      unfinished = c.in-Ok-make_file.ensures.counts.unfinished ∙ c.loop-number.invariant.unfinished;
      numbered = numbered_more base (c.loop-number.number - 1) c.loop-number.number _ (folder_seen g.D.Folder c.args.folder.now) (folder_seen g.D.Folder c.loop-number.folder) (folder_seen g.D.Folder c.make_file.new.folder)
          (omega (arith, c.loop-number.invariant.least)) (omega arith) c.in-Ok-make_file.ensures.leaves c.in-Ok-make_file.ensures.requested c.loop-number.invariant.numbered;
      created = omega (arith, c.loop-number.invariant.created, c.in-Ok-make_file.ensures.counts.created, c.loop-number.invariant.least);
      least = omega (arith, c.loop-number.invariant.least);
    }

pub returns-in-Err-clause-told : goal.returns-in-Err-clause-told
returns-in-Err-clause-told g c =
    let header = c.args.plan.now.header.now in
    let rules = c.args.plan.now.rules in
    let base = c.args.plan.now.base.now in
    let old = g.D.Folder.files c.args.folder.now in
    let mid = g.D.Folder.files c.loop-number.folder in
    let new = g.D.Folder.files c.make_file.new.folder in
    told_again _ _ _ (g.F.File.bytes c.args.file.now) (g.F.File.bytes c.loop-number.file) c.loop-number.invariant.keeps.bytes (λ file p m.
    let news = new_files rules base header file (parts_of (lanes_of c.args.lists.now)) in
    let bad = bad_reached rules header.layout file (parts_of (lanes_of c.args.lists.now)) in
    progress_stops header base file rules news bad c.loop-number.number (lanes_of c.loop-number.lists) (lanes_of c.make_file.new.lists) old mid new c.in-Err.unmade c.ending.result (g.D.Folder.counts c.args.folder.now) (g.D.Folder.counts c.loop-number.folder) (g.D.Folder.counts c.make_file.new.folder)
    (g.D.Folder.requested c.args.folder.now) (g.D.Folder.requested c.loop-number.folder) (g.D.Folder.requested c.make_file.new.folder) c.ending.ensures c.loop-number.invariant.counts.unfinished (m p.stands p.small) c.in-Err.ensures.leaves p)
    c.loop-number.invariant.progress c.in-Err.ensures.told

pub returns-in-Err-clause-read : goal.returns-in-Err-clause-read
returns-in-Err-clause-read g c = λ is. let rose = c.in-Err.ensures.read (fault_is c.in-Err.unmade fault.Read c.ending.result c.ending.ensures is) in omega (arith, rose, c.loop-number.invariant.keeps.later)

pub returns-in-Err-clause-write : goal.returns-in-Err-clause-write
returns-in-Err-clause-write g c = λ is. let rose = c.in-Err.ensures.counts.writing (fault_is c.in-Err.unmade fault.Write c.ending.result c.ending.ensures is) in omega (arith, rose, c.loop-number.invariant.counts.writing)

pub returns-clause-told : goal.returns-clause-told
returns-clause-told g c =
    told_map _ _ (g.F.File.bytes c.args.file.now) (λ file p. absurd (omega (arith, p.few)))
    c.loop-number.invariant.progress

pub returns-in_default-clause-created : goal.returns-in_default-clause-created
returns-in_default-clause-created g c = told_all _ (g.F.File.bytes c.args.file.now) (λ file. omega arith)

pub returns-then-not-goes_on-clause-created : goal.returns-then-not-goes_on-clause-created
returns-then-not-goes_on-clause-created g c =
    let header = c.args.plan.now.header.now in
    let rules = c.args.plan.now.rules in
    let base = c.args.plan.now.base.now in
    let old = g.D.Folder.files c.args.folder.now in
    let mid = g.D.Folder.files c.loop-number.folder in
    let new = g.D.Folder.files c.make_file.new.folder in
    told_again _ _ _ (g.F.File.bytes c.args.file.now) (g.F.File.bytes c.loop-number.file) c.loop-number.invariant.keeps.bytes (λ file p m.
    let news = new_files rules base header file (parts_of (lanes_of c.args.lists.now)) in
    let bad = bad_reached rules header.layout file (parts_of (lanes_of c.args.lists.now)) in
    created_last header base file rules news bad c.loop-number.number (lanes_of c.loop-number.lists) (lanes_of c.make_file.new.lists) old mid new c.in-Ok-make_file.ends c.end_by.result
    (g.D.Folder.counts c.args.folder.now).created (g.D.Folder.counts c.loop-number.folder).created (g.D.Folder.counts c.make_file.new.folder).created
    (sym c.goes_on.ensures ∙ c.if-not-goes_on.true)
    (m p.stands p.small)
    c.loop-number.invariant.least c.loop-number.invariant.created c.in-Ok-make_file.ensures.counts.created p)
    c.loop-number.invariant.progress c.in-Ok-make_file.ensures.told

pub returns-in-Err-clause-created : goal.returns-in-Err-clause-created
returns-in-Err-clause-created g c =
    let header = c.args.plan.now.header.now in
    let rules = c.args.plan.now.rules in
    let base = c.args.plan.now.base.now in
    let old = g.D.Folder.files c.args.folder.now in
    let mid = g.D.Folder.files c.loop-number.folder in
    let new = g.D.Folder.files c.make_file.new.folder in
    told_again _ _ _ (g.F.File.bytes c.args.file.now) (g.F.File.bytes c.loop-number.file) c.loop-number.invariant.keeps.bytes (λ file p m.
    let news = new_files rules base header file (parts_of (lanes_of c.args.lists.now)) in
    let bad = bad_reached rules header.layout file (parts_of (lanes_of c.args.lists.now)) in
    created_stops header base file rules news bad c.loop-number.number (lanes_of c.loop-number.lists) (lanes_of c.make_file.new.lists) old mid new c.in-Err.unmade c.ending.result
    (g.D.Folder.counts c.args.folder.now).created (g.D.Folder.counts c.loop-number.folder).created (g.D.Folder.counts c.make_file.new.folder).created c.ending.ensures
    (m p.stands p.small)
    c.loop-number.invariant.least c.loop-number.invariant.created c.in-Err.ensures.counts.created p)
    c.loop-number.invariant.progress c.in-Err.ensures.told

pub returns-clause-created : goal.returns-clause-created
returns-clause-created g c =
    told_map _ _ (g.F.File.bytes c.args.file.now) (λ file p. absurd (omega (arith, p.few)))
    c.loop-number.invariant.progress

pub returns-then-not-goes_on-clause-unfinished : goal.returns-then-not-goes_on-clause-unfinished
returns-then-not-goes_on-clause-unfinished g c = c.in-Ok-make_file.ensures.counts.unfinished ∙ c.loop-number.invariant.unfinished

pub returns-in-Err-clause-unfinished : goal.returns-in-Err-clause-unfinished
returns-in-Err-clause-unfinished g c = leaves_since c.ending.result _ _ _ c.loop-number.invariant.unfinished
    (subst (λ (end : Result End IoFault). LeavesUnfinished (g.D.Folder.counts c.loop-number.folder).unfinished (g.D.Folder.counts c.make_file.new.folder).unfinished end) (sym c.ending.ensures) c.in-Err.ensures.counts.unfinished)

pub returns-in-Err-clause-counts : goal.returns-in-Err-clause-counts
returns-in-Err-clause-counts g c = kept_twice _ _ _ c.loop-number.invariant.counts c.make_file.ensures.counts.keeps

pub returns-then-not-goes_on-clause-counts : goal.returns-then-not-goes_on-clause-counts
returns-then-not-goes_on-clause-counts g c = kept_twice _ _ _ c.loop-number.invariant.counts c.make_file.ensures.counts.keeps

pub returns-in_default-clause-reads : goal.returns-in_default-clause-reads
returns-in_default-clause-reads g c =
    let header = c.args.plan.now.header.now in
    start_less (g.F.File.size c.args.file.now) (lanes_of c.args.lists.now) _ _ c.requires.fresh
    (loaded_stops (g.F.File.size c.args.file.now) (lanes_of c.args.lists.now) (lanes_of c.pass_start.new.lists) _ _ c.pass_start.ensures.go.reads c.pass_start.ensures.go.unread)

pub returns-then-not-goes_on-clause-reads : goal.returns-then-not-goes_on-clause-reads
returns-then-not-goes_on-clause-reads g c =
    let header = c.args.plan.now.header.now in
    start_less (g.F.File.size c.args.file.now) (lanes_of c.args.lists.now) _ _ c.requires.fresh
    (spent_all _ _ _ _ (spent_more _ _ _ _ _ _ c.loop-number.invariant.spent
    (same_spent (g.F.File.size c.args.file.now) (g.F.File.size c.loop-number.file) (lanes_of c.loop-number.lists) (lanes_of c.make_file.new.lists) _ _ c.loop-number.invariant.keeps.size c.in-Ok-make_file.ensures.reads)))

pub returns-in-Err-clause-reads : goal.returns-in-Err-clause-reads
returns-in-Err-clause-reads g c =
    let header = c.args.plan.now.header.now in
    start_less (g.F.File.size c.args.file.now) (lanes_of c.args.lists.now) _ _ c.requires.fresh
    (spent_stops (g.F.File.size c.args.file.now) (g.F.File.size c.loop-number.file) (lanes_of c.args.lists.now) (lanes_of c.loop-number.lists) _ _ _ c.loop-number.invariant.keeps.size c.loop-number.invariant.spent c.in-Err.ensures.reads)

pub returns-clause-reads : goal.returns-clause-reads
returns-clause-reads g c =
    let header = c.args.plan.now.header.now in
    start_less (g.F.File.size c.args.file.now) (lanes_of c.args.lists.now) _ _ c.requires.fresh (spent_all _ _ _ _ c.loop-number.invariant.spent)

-- WHAT WAS ASKED FOR, AND WHAT IS LEFT OF ANY FILE

pub returns-in_default-clause-requested : goal.returns-in_default-clause-requested
returns-in_default-clause-requested g c =
    told_all _ (g.F.File.bytes c.args.file.now) (λ file. asked_none (names_of (new_files c.args.plan.now.rules c.args.plan.now.base.now c.args.plan.now.header.now file (parts_of (lanes_of c.args.lists.now)))) (g.D.Folder.requested c.args.folder.now))

pub returns-then-not-goes_on-clause-requested : goal.returns-then-not-goes_on-clause-requested
returns-then-not-goes_on-clause-requested g c =
    let header = c.args.plan.now.header.now in
    let rules = c.args.plan.now.rules in
    let base = c.args.plan.now.base.now in
    let old = g.D.Folder.files c.args.folder.now in
    let mid = g.D.Folder.files c.loop-number.folder in
    let new = g.D.Folder.files c.make_file.new.folder in
    let more = numbered_more base (c.loop-number.number - 1) c.loop-number.number c.loop-number.number (folder_seen g.D.Folder c.args.folder.now) (folder_seen g.D.Folder c.loop-number.folder) (folder_seen g.D.Folder c.make_file.new.folder)
    (omega (arith, c.loop-number.invariant.least)) refl c.in-Ok-make_file.ensures.leaves c.in-Ok-make_file.ensures.requested c.loop-number.invariant.numbered in
    told_again _ _ _ (g.F.File.bytes c.args.file.now) (g.F.File.bytes c.loop-number.file) c.loop-number.invariant.keeps.bytes (λ file p m.
    let news = new_files rules base header file (parts_of (lanes_of c.args.lists.now)) in
    let bad = bad_reached rules header.layout file (parts_of (lanes_of c.args.lists.now)) in
    let long = last_counted header base file rules news bad c.loop-number.number (lanes_of c.loop-number.lists) (lanes_of c.make_file.new.lists) old mid new c.in-Ok-make_file.ends (sym c.goes_on.ensures ∙ c.if-not-goes_on.true) (m p.stands p.small) p in
    asked_all base news (c.loop-number.number + 0) (g.D.Folder.requested c.args.folder.now) (g.D.Folder.requested c.make_file.new.folder) c.end_by.result
    (names_new header base (file_items rules header.layout file (parts_of (lanes_of c.args.lists.now)))) (omega (arith, long)) more.requested)
    c.loop-number.invariant.progress c.in-Ok-make_file.ensures.told

pub returns-in-Err-clause-requested : goal.returns-in-Err-clause-requested
returns-in-Err-clause-requested g c =
    let header = c.args.plan.now.header.now in
    let rules = c.args.plan.now.rules in
    let base = c.args.plan.now.base.now in
    let old = g.D.Folder.files c.args.folder.now in
    let mid = g.D.Folder.files c.loop-number.folder in
    let new = g.D.Folder.files c.make_file.new.folder in
    told_again _ _ _ (g.F.File.bytes c.args.file.now) (g.F.File.bytes c.loop-number.file) c.loop-number.invariant.keeps.bytes (λ file p m.
    let news = new_files rules base header file (parts_of (lanes_of c.args.lists.now)) in
    let bad = bad_reached rules header.layout file (parts_of (lanes_of c.args.lists.now)) in
    asked_stops (record { header = header; rules = rules; name = file_name base c.loop-number.number }) file (record { lanes = (lanes_of c.loop-number.lists); files = mid }) (record { lanes = (lanes_of c.make_file.new.lists); files = new }) base news (c.loop-number.number - 1) c.loop-number.number
    (g.D.Folder.requested c.args.folder.now) (g.D.Folder.requested c.loop-number.folder) (g.D.Folder.requested c.make_file.new.folder) c.in-Err.unmade c.ending.result c.ending.ensures (m p.stands p.small)
    (names_new header base (file_items rules header.layout file (parts_of (lanes_of c.args.lists.now)))) (omega (arith, c.loop-number.invariant.least))
    (some_counted header base file rules news bad c.loop-number.number (lanes_of c.loop-number.lists) (lanes_of c.make_file.new.lists) old mid new p)
    c.loop-number.invariant.numbered.requested c.in-Err.ensures.requested)
    c.loop-number.invariant.progress c.in-Err.ensures.told

pub returns-clause-requested : goal.returns-clause-requested
returns-clause-requested g c =
    told_map _ _ (g.F.File.bytes c.args.file.now) (λ file p. absurd (omega (arith, p.few)))
    c.loop-number.invariant.progress

pub returns-in_default-clause-leaves : goal.returns-in_default-clause-leaves
returns-in_default-clause-leaves g c = inl (0, numbered_none c.args.plan.now.base.now 0 (folder_seen g.D.Folder c.args.folder.now) refl)

pub returns-then-not-goes_on-clause-leaves : goal.returns-then-not-goes_on-clause-leaves
returns-then-not-goes_on-clause-leaves g c =
    let base = c.args.plan.now.base.now in
    let old = folder_seen g.D.Folder c.args.folder.now in
    let new = folder_seen g.D.Folder c.make_file.new.folder in
    finished_all base (lanes_of c.make_file.new.lists) c.loop-number.number old new c.in-Ok-make_file.ends.bad c.end_by.result c.end_by.ensures
    (numbered_more base (c.loop-number.number - 1) c.loop-number.number c.loop-number.number old (folder_seen g.D.Folder c.loop-number.folder) new
    (omega (arith, c.loop-number.invariant.least)) refl c.in-Ok-make_file.ensures.leaves c.in-Ok-make_file.ensures.requested c.loop-number.invariant.numbered)

pub returns-in-Err-clause-leaves : goal.returns-in-Err-clause-leaves
returns-in-Err-clause-leaves g c =
    stops_there c.args.plan.now.base.now (lanes_of c.make_file.new.lists) (c.loop-number.number - 1) c.loop-number.number (folder_seen g.D.Folder c.args.folder.now) (folder_seen g.D.Folder c.loop-number.folder) (folder_seen g.D.Folder c.make_file.new.folder)
    c.in-Err.unmade c.ending.result c.ending.ensures (omega (arith, c.loop-number.invariant.least)) c.loop-number.invariant.counts.unfinished c.loop-number.invariant.numbered c.in-Err.ensures.leaves c.in-Err.ensures.requested

pub returns-clause-leaves : goal.returns-clause-leaves
returns-clause-leaves g c = (c.loop-number.number - 1, c.loop-number.invariant.numbered)
