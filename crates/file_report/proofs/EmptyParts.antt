-- Parts that have no bytes: a report without them is the report of all parts.
use Rattle.std.proofs.Common.{◌≡◌, ◌≤◌, ◌+◌, ◌*◌, ℕ, Bool, true, false, List, Option, None, Some, IfSome, refl, ap, subst, ◌∙◌}
use Rattle.std.specs.Option.{option_map}
use Rattle.trace_base.specs.declared.part.Part.{Part}
use Rattle.trace_outside.specs.Causes.{Rose, raised}
use Rattle.file_report.specs.declared.report.Recording.{Recording}
use Rattle.subpage.specs.Arrangement.{Keyed}
use Rattle.subpage.specs.Cut.{Cut, cut_of, reached_of}
use Rattle.subpage.specs.WithBytes.{with_bytes}
use Rattle.subpage.proofs.EmptyParts.{cut_same, passing_same, reached_same, sum_same}
use Rattle.report_print.specs.ContextData.{ContextData}
use Rattle.report_rounds.specs.Due.{due_bytes, is_page_due, written_pieces}
use Rattle.report_rounds.specs.Lines.{shown_lines}
use Rattle.call_pairs.specs.Calls.{calls_of}
use Rattle.graph_report.specs.Gathered.{reached_calls, seen_in}
use Rattle.wakeup_pairs.specs.Gathered.{gathered}
use Rattle.wakeup_lat.specs.Roles.{all_seen}
use Rattle.wakeup_lat.specs.Section.{section}
use Rattle.report_context.specs.Lines.{item_line}
use Rattle.run_endings.specs.declared.status.Status.{Status}
use Rattle.run_endings.specs.Ending.{Prints}
use Rattle.run_endings.specs.Meaning.{Meaning, ended, prints}
use Rattle.run_endings.specs.Progress.{Progress, parts_size}
use Rattle.file_report.specs.Due.{ReadsDue, behind_first, due_of, parts_share}
use Rattle.file_report.specs.Meaning.{calls_report, events_report, report_as, with_piece}
use Rattle.file_report.specs.Report.{Events, call_pieces, events_on, report_pieces, unless_calls, waits_section}
use Rattle.file_report.specs.Reported.{AtWork, Reported, parts_task, progress_of}

module _ (given : ContextData) (parts : List (ℕ × Part)) (recording : Recording) where
  -- the events of the parts that have bytes
  abbrev busy : List ℕ → Events
  busy bytes = events_on given (with_bytes parts) recording bytes

  -- the events of all parts
  abbrev whole : List ℕ → Events
  whole bytes = events_on given parts recording bytes

  events_same : (bytes : List ℕ) → events_report (busy bytes) ≡ events_report (whole bytes)
  events_same bytes =
      ap (λ (items : List Keyed). prints (report_pieces recording.cpus given items) (ended (cut_of recording.layout bytes (with_bytes parts)))) (reached_same recording.layout bytes parts)
      ∙ ap (λ (cut : Option Cut). prints (report_pieces recording.cpus given (reached_of recording.layout bytes parts)) (ended cut)) (cut_same recording.layout bytes parts)

  waits_same : (bytes : List ℕ) → waits_section (busy bytes) ≡ waits_section (whole bytes)
  waits_same bytes = ap (λ (items : List Keyed). section given (gathered (all_seen given items)).pairs) (reached_same recording.layout bytes parts)

  calls_same : (bytes : List ℕ) → calls_report (busy bytes) ≡ calls_report (whole bytes)
  calls_same bytes =
      ap (λ (items : List Keyed). prints (call_pieces recording.cpus given (calls_of (seen_in given items))) (ended (cut_of recording.layout bytes (with_bytes parts)))) (reached_same recording.layout bytes parts)
      ∙ ap (λ (cut : Option Cut). prints (call_pieces recording.cpus given (reached_calls given recording.layout bytes parts)) (ended cut)) (cut_same recording.layout bytes parts)

  report_same : (calls wakeups : Bool) (bytes : List ℕ) → report_as calls wakeups (busy bytes) ≡ report_as calls wakeups (whole bytes)
  report_same true wakeups bytes = calls_same bytes
  report_same false false bytes = events_same bytes
  report_same false true bytes =
      ap (λ (m : Meaning). with_piece m (waits_section (busy bytes))) (events_same bytes) ∙ ap (with_piece (events_report (whole bytes))) (waits_same bytes)

  means_same : (calls wakeups : Bool) (told : Option (List ℕ)) → option_map (λ bytes. report_as calls wakeups (busy bytes)) told ≡ option_map (λ bytes. report_as calls wakeups (whole bytes)) told
  means_same calls wakeups None = refl
  means_same calls wakeups (Some bytes) = ap Some (report_same calls wakeups bytes)

  size_same : parts_size (with_bytes parts) ≡ parts_size parts
  size_same = sum_same (λ (part : ℕ × Part). part.1.size) parts (λ part none. none)

  share_same : (wakeups : Bool) → parts_share wakeups (with_bytes parts) ≡ parts_share wakeups parts
  share_same false = size_same
  share_same true = ap (λ (n : ℕ). 2 * n) size_same

  due_same : (bytes written : List ℕ) → due_of (busy bytes) written ≡ due_of (whole bytes) written
  unfolding due_bytes
  due_same bytes written =
      ap (λ (n : ℕ). recording.layout.page * n)
      (passing_same recording.layout bytes (λ (items : List Keyed). written_pieces (shown_lines (item_line given) items) (behind_first recording.cpus written)) (is_page_due (item_line given) recording.layout bytes) parts)

  due_told : (calls wakeups : Bool) (told : Option (List ℕ)) (before now : Progress)
      → IfSome told (λ bytes. IfSome (unless_calls calls wakeups (busy bytes)) (λ events. ReadsDue events 0 before now))
      → IfSome told (λ bytes. IfSome (unless_calls calls wakeups (whole bytes)) (λ events. ReadsDue events 0 before now))
  due_told calls wakeups None before now due = tt
  due_told true wakeups (Some bytes) before now due = tt
  due_told false true (Some bytes) before now due = tt
  due_told false false (Some bytes) before now due = (due.0, (due.1.0, subst (λ (n : ℕ). now.reads ≤ raised before.reads (0 + n)) (due_same bytes due.0) due.1.1))

  pub with_empty_parts : (calls wakeups : Bool) (told : Option (List ℕ)) (status : Status) (before now : AtWork)
      → Reported (parts_task calls wakeups given (with_bytes parts) recording) told status before now → Reported (parts_task calls wakeups given parts recording) told status before now
  with_empty_parts calls wakeups told status before now did = record {
    prints = subst (λ (means : Option Meaning). Prints (Rose before.faults now.faults) means status before.out now.out) (means_same calls wakeups told) did.prints;
    reads = subst (λ (n : ℕ). now.reads ≤ raised before.reads n) (share_same wakeups) did.reads;
    due = due_told calls wakeups told (progress_of before) (progress_of now) did.due;
    gathers = did.gathers;
    kept = did.kept;
  }
