-- A report, by what its words ask for: what its parts did is what the whole was to do.
use Rattle.std.proofs.Common.{◌≡◌, ◌≤◌, ◌-◌, ◌*◌, ℕ, Bool, true, false, List, [], Option, None, Some, IfSome, sym, subst, arith, refl}
use Rattle.std.specs.Option.{option_map}
use Rattle.trace_base.specs.declared.part.Part.{Part}
use Rattle.trace_outside.specs.Causes.{Rose, raised}
use Rattle.trace_outside.proofs.Gains.{gained_nothing}
use Rattle.dat_header.specs.declared.header.Header.{Header}
use Rattle.file_report.specs.declared.report.Recording.{Recording}
use Rattle.dat_header.specs.declared.header.Body.{Body}
use Rattle.dat_header.specs.declared.header.Body.TheVariants.{Fly, Latency}
use Rattle.subpage.specs.WithBytes.{with_bytes}
use Rattle.report_print.specs.ContextData.{ContextData}
use Rattle.trace_args.specs.Command.{ReportData}
use Rattle.word_values.specs.declared.listing.Listing.{Listing}
use Rattle.run_endings.specs.declared.status.Status.{Status}
use Rattle.run_endings.specs.declared.status.Status.TheVariants.{NoMemory, ReadFault}
use Rattle.run_endings.specs.Ending.{IfNoMemory, Prints}
use Rattle.report_context.specs.Context.{context_of}
use Rattle.file_report.specs.Due.{ReadsDue, parts_share, report_share}
use Rattle.run_endings.specs.Progress.{parts_size}
use Rattle.file_report.specs.Meaning.{calls_report, events_report, latency_report, list_report, report_by, shown_report}
use Rattle.run_endings.specs.Outside.{SinkSeen}
use Rattle.file_report.specs.Report.{events_on, recording_of, listed_events, listed_calls}
use Rattle.file_report.specs.Reported.{AtWork, Reported, Task, body_task, chosen_task, file_task, parts_task, progress_of}
use Rattle.run_endings.specs.Selection.{chosen, set_or_all}
use Rattle.run_endings.proofs.Endings.{if_known, if_no_memory, prints_always, unprinted}
use Rattle.file_report.proofs.EmptyParts.{with_empty_parts}

-- there was no memory, and nothing was done
pub not_begun : (task : Task) (told : Option (List ℕ)) (seen : AtWork) → Reported task told NoMemory seen seen
not_begun task told seen = record {
  prints = unprinted _ (option_map task.means told) seen.out;
  reads = omega arith;
  due = if_known _ told (λ bytes. if_known _ (task.events bytes) (λ events. ([], (gained_nothing seen.out.written, omega arith))));
  gathers = λ calls unread. refl;
  kept = refl;
}

module _ (words : ReportData) (header : Header) (told : Option (List ℕ)) (status : Status) where
  -- what a report does where its words ask for this list
  abbrev by_list : Option Listing → ℕ → Task
  by_list list size = record {
    means = report_by list words header;
    share = report_share list words header size;
    events = listed_events list words header;
    calls = listed_calls list words.calls header.body;
  }

  pub events_reported : (size : ℕ) (before now : AtWork) → words.list ≡ None
      → Reported (body_task words header header.body size) told status before now → Reported (file_task words header size) told status before now
  events_reported size before now none did =
      subst (λ (list : Option Listing). Reported (by_list list size) told status before now) (sym none)
      (record { prints = did.prints; reads = did.reads; due = did.due; gathers = did.gathers; kept = did.kept })

  pub list_reported : (list : Listing) (size faults reads : ℕ) (before now : SinkSeen) → words.list ≡ Some list
      → Prints ⊥ (Some (list_report header list)) status before now
      → Reported (file_task words header size) told status (record { faults = faults; reads = reads; out = before }) (record { faults = faults; reads = reads; out = now })
  list_reported list size faults reads before now is prints =
      subst (λ (asked : Option Listing). Reported (by_list asked size) told status (record { faults = faults; reads = reads; out = before }) (record { faults = faults; reads = reads; out = now })) (sym is)
      (record {
        prints = prints_always _ (list_report header list) told status before now prints;
        reads = omega arith;
        due = if_known _ told (λ bytes. tt);
        gathers = λ calls unread. absurd cc;
        kept = if_no_memory (faults ≡ faults) status refl;
      })

  pub latency_reported : (size : ℕ) (before now : AtWork) → header.body ≡ Latency
      → Prints (Rose before.faults now.faults) (option_map (latency_report header.cpus header.end) told) status before.out now.out
      → now.reads ≤ raised before.reads (size - header.end) → IfNoMemory status (now.faults ≡ before.faults)
      → Reported (body_task words header header.body size) told status before now
  latency_reported size before now is prints reads kept =
      subst (λ (body : Body). Reported (body_task words header body size) told status before now) (sym is)
      (record { prints = prints; reads = reads; due = if_known _ told (λ bytes. tt); gathers = λ calls unread. absurd cc; kept = kept })

  pub fly_reported : (size : ℕ) (slice own : List Part) (before now : AtWork) → header.body ≡ Fly own → slice ≡ own
      → Reported (chosen_task words header slice) told status before now → Reported (body_task words header header.body size) told status before now
  fly_reported size slice own before now is same did =
      let there : Reported (chosen_task words header own) told status before now =
      subst (λ (parts : List Part). Reported (chosen_task words header parts) told status before now) same did in
      subst (λ (body : Body). Reported (body_task words header body size) told status before now) (sym is)
      (record { prints = there.prints; reads = there.reads; due = there.due; gathers = there.gathers; kept = there.kept })

  -- the context was made of the words and the header
  pub context_reported : (given : ContextData) (shown : List (ℕ × Part)) (before now : AtWork) → given ≡ context_of words header
      → Reported (parts_task words.calls words.wakeups given shown (recording_of header)) told status before now
      → Reported (parts_task words.calls words.wakeups (context_of words header) shown (recording_of header)) told status before now
  context_reported given shown before now given_is did =
      subst (λ (by : ContextData). Reported (parts_task words.calls words.wakeups by shown (recording_of header)) told status before now) given_is did

  -- what is shown is what the words choose, without the parts that have no bytes
  pub chosen_reported : (parts : List Part) (given : ContextData) (shown : List (ℕ × Part)) (before now : AtWork) → given ≡ context_of words header → shown ≡ with_bytes (chosen (set_or_all words.cpus) parts)
      → Reported (parts_task words.calls words.wakeups given shown (recording_of header)) told status before now → Reported (chosen_task words header parts) told status before now
  chosen_reported parts given shown before now given_is shown_is did =
      subst (λ (by : ContextData). Reported (parts_task words.calls words.wakeups by (chosen (set_or_all words.cpus) parts) (recording_of header)) told status before now) given_is
      (with_empty_parts given (chosen (set_or_all words.cpus) parts) (recording_of header) words.calls words.wakeups told status before now
      (subst (λ (ps : List (ℕ × Part)). Reported (parts_task words.calls words.wakeups given ps (recording_of header)) told status before now) shown_is did))

module _ (given : ContextData) (shown : List (ℕ × Part)) (recording : Recording) (told : Option (List ℕ)) (before now : AtWork) where
  -- calls are gathered in one pass
  calls_share : (wakeups : Bool) → now.reads ≤ raised before.reads (parts_size shown) → now.reads ≤ raised before.reads (parts_share wakeups shown)
  calls_share false reads = reads
  calls_share true reads = omega (arith, reads)

  pub calls_reported : (calls wakeups : Bool) (status : Status) → calls ≡ true
      → Prints (Rose before.faults now.faults) (option_map (λ bytes. calls_report (events_on given shown recording bytes)) told) status before.out now.out
      → now.reads ≤ raised before.reads (parts_size shown)
      → (status ≡ ReadFault → now.out ≡ before.out) → IfNoMemory status (now.faults ≡ before.faults)
      → Reported (parts_task calls wakeups given shown recording) told status before now
  calls_reported calls wakeups status is prints reads gathers kept =
      subst (λ (asked : Bool). Reported (parts_task asked wakeups given shown recording) told status before now) (sym is)
      (record { prints = prints; reads = calls_share wakeups reads; due = if_known _ told (λ bytes. tt); gathers = λ calls. gathers; kept = kept })

  -- of lines, with or without the latencies after them
  by_words : (calls wakeups asked : Bool) (status : Status) → calls ≡ false → wakeups ≡ asked → Reported (parts_task false asked given shown recording) told status before now
      → Reported (parts_task calls wakeups given shown recording) told status before now
  by_words calls wakeups asked status is behind did =
      subst (λ (b : Bool). Reported (parts_task b wakeups given shown recording) told status before now) (sym is)
      (subst (λ (b : Bool). Reported (parts_task false b given shown recording) told status before now) (sym behind) did)

  pub waits_reported : (calls wakeups : Bool) (status : Status) → calls ≡ false → wakeups ≡ true
      → Prints (Rose before.faults now.faults) (option_map (λ bytes. shown_report true (events_on given shown recording bytes)) told) status before.out now.out
      → now.reads ≤ raised before.reads (2 * parts_size shown) → IfNoMemory status (now.faults ≡ before.faults)
      → Reported (parts_task calls wakeups given shown recording) told status before now
  waits_reported calls wakeups status is behind prints reads kept =
      by_words calls wakeups true status is behind (record { prints = prints; reads = reads; due = if_known _ told (λ bytes. tt); gathers = λ calls unread. absurd cc; kept = kept })

  pub lines_reported : (calls wakeups : Bool) (status : Status) → calls ≡ false → wakeups ≡ false
      → Prints (Rose before.faults now.faults) (option_map (λ bytes. events_report (events_on given shown recording bytes)) told) status before.out now.out
      → now.reads ≤ raised before.reads (parts_size shown)
      → IfSome told (λ bytes. ReadsDue (events_on given shown recording bytes) 0 (progress_of before) (progress_of now))
      → IfNoMemory status (now.faults ≡ before.faults)
      → Reported (parts_task calls wakeups given shown recording) told status before now
  lines_reported calls wakeups status is behind prints reads due kept =
      by_words calls wakeups false status is behind (record { prints = prints; reads = reads; due = due; gathers = λ calls unread. absurd cc; kept = kept })
