use Rattle.std.proofs.Common.{◌∙◌, ap, subst, refl, arith, ℕ, IfOk, Ok}
use Rattle.trace_outside.specs.Causes.{Rose, raised}
use Rattle.run_endings.specs.declared.status.Status.TheVariants.{ReadFault}
use Rattle.several_report.specs.Inputs.{input_found, input_named}
use Rattle.trace_run.specs.Input.{ReadsNoMore}
use Rattle.run_endings.specs.Progress.{BehindHeader, progress_at}
use Rattle.run_words.specs.Job.{OnFile, command_view}
use Rattle.trace_run.specs.Meaning.{input_of, meaning_read, target_of}
use Rattle.run_endings.specs.Outside.{beside, folder_seen, sink_seen}
use Rattle.trace_run.specs.Ran.{Unread}
use Rattle.run_endings.proofs.Endings.{Around, ended_complete, if_known, not_usage, keeps_out}
use Rattle.trace_run.proofs.Endings.{clean_around, command_asked, command_asks, command_ended, command_misses, unopened_asks, unopened_ended}
use Rattle.trace_run.proofs.Reading.{command_reads, command_gathers, gathers_nothing}
use Rattle.trace_run.proofs.command.run_command.Goals as goal

pub returns-in-Err : goal.returns-in-Err
returns-in-Err g c =
    let command = command_view c.args.command.now in
    let out = sink_seen g.O.Sink c.args.out.now in
    let before = beside (folder_seen g.F.Folder c.args.folder.now) out in
    let now = beside (folder_seen g.F.Folder c.open_file.new.self) out in
    let opens = c.open_file.ensures.counts in
    let unread = Unread (Ok (OnFile command)) before now in
    let ended = unopened_ended command before.folder.files unread before now c.in-Err.ensures.counts.failed refl c.open_file.ensures.files opens.created in
    record {
      job = record {
        ended = ended;
        complete = ended_complete (target_of command) unread (meaning_read (Ok (OnFile command)) before.folder.files) ReadFault before now ended;
        misses = command_misses command _ _ before.folder.counts now.folder.counts now.folder.counts c.input_of.ensures opens.misses refl;
        closes = λ opened closed. omega (arith, c.in-Err.ensures.counts.opened, opens.closed);
        opens = omega (arith, c.in-Err.ensures.counts.opened);
      };
      usage = ((λ is. cc), keeps_out (target_of command) out);
      requested = unopened_asks command (meaning_read (Ok (OnFile command)) before.folder.files) _ before.folder.requested now.folder.requested c.input_of.ensures c.open_file.ensures.requested;
      reads = tt;
      gathers = if_known _ before.folder.files (λ files. gathers_nothing command (input_named files (input_of command)) ReadFault out);
    }

pub returns-in-Ok : goal.returns-in-Ok
returns-in-Ok g c =
    let command = command_view c.args.command.now in
    let status = c.run_on_file-status.result in
    let reads = g.F.In.File.reads c.run_on_file-status.new.file in
    let out = sink_seen g.O.Sink c.args.out.now in
    let out_now = sink_seen g.O.Sink c.run_on_file-status.new.out in
    let before = beside (folder_seen g.F.Folder c.args.folder.now) out in
    let opened = beside (folder_seen g.F.Folder c.open_file.new.self) out in
    let worked = beside (folder_seen g.F.Folder c.run_on_file-status.new.folder) out_now in
    let now = beside (folder_seen g.F.Folder c.close_file.new.self) out_now in
    let work = c.run_on_file-status.ensures.worked in
    let opens = c.open_file.ensures.counts in
    let closes = c.close_file.ensures.counts in
    let around : Around before opened worked now = record {
      files_first = c.open_file.ensures.files;
      files_then = c.close_file.ensures.files;
      out_first = refl;
      out_then = refl;
      created_first = opens.created;
      created_then = closes.created;
      unfinished_first = opens.unfinished;
      unfinished_then = closes.unfinished;
      writing_first = omega (arith, opens.writing);
      writing_then = omega (arith, closes.writing);
    } in
    let given = rw c.input_of.ensures at c.in-Ok.ensures.given in
    let unread = Unread (Ok (OnFile command)) before now in
    let risen : Rose (g.F.In.File.faults c.in-Ok.file) (g.F.In.File.faults c.run_on_file-status.new.file) → unread = λ rose.
    let faulty = closes.faulty (omega (arith, rose)) in
    omega (arith, faulty, work.counts.reading, opens.reading) in
    let clean = clean_around status (g.F.In.File.faults c.in-Ok.file) (g.F.In.File.faults c.run_on_file-status.new.file) reads before opened worked now
    c.in-Ok.ensures.counts.kept opens.writing c.in-Ok.ensures.no_faults closes c.run_on_file-status.ensures.kept in
    let ended = command_ended before opened worked now around command before.folder.files (g.F.In.File.bytes c.in-Ok.file) _ unread status given risen clean work.ended in
    record {
      job = record {
        ended = ended;
        complete = ended_complete (target_of command) unread (meaning_read (Ok (OnFile command)) before.folder.files) status before now ended;
        misses = command_misses command _ _ before.folder.counts opened.folder.counts now.folder.counts c.input_of.ensures opens.misses (closes.misses ∙ work.counts.misses);
        closes = λ last_opened last_closed. omega (arith, c.in-Ok.ensures.counts.opened, opens.closed, work.counts.opened, work.counts.closed, closes.opened, closes.closed);
        opens = omega (arith, c.in-Ok.ensures.counts.opened, work.counts.opened, closes.opened);
      };
      usage = (not_usage (target_of command) unread status before now (command_asked command) ended.causes, work.out);
      requested = command_asks command before.folder.files (g.F.In.File.bytes c.in-Ok.file) _ before.folder.requested opened.folder.requested worked.folder.requested now.folder.requested
          c.input_of.ensures given c.open_file.ensures.requested work.requested c.close_file.ensures.requested;
      reads = command_reads command _ _ status out.written out_now.written reads _ _ given
          (closes.bytes ∙ ap (λ (b : ℕ). raised b reads) (work.counts.bytes ∙ opens.bytes))
          (subst (λ (n : ℕ). BehindHeader status (IfOk (input_found (input_of command) (g.F.In.File.bytes c.in-Ok.file))
          (λ input. ReadsNoMore command input (progress_at out.written n) (progress_at out_now.written reads)))) c.in-Ok.ensures.no_reads c.run_on_file-status.ensures.reads);
      gathers = command_gathers command _ _ status out out_now given c.run_on_file-status.ensures.gathers;
    }
