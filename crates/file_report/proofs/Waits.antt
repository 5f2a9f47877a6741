-- A report of events with the latencies after its lines.
use Rattle.std.proofs.Common.{◌≡◌, ℕ, true, false, List, [], ◌∷◌, ◌++◌, length, take, Option, None, Some, IfNone, IfSome, Result, Ok, Err, inl, inr, refl, sym, ap, subst, ◌∙◌, arith, append-nil}
use Rattle.std.specs.Option.{option_map}
use Rattle.std.proofs.lemmas.Bool.{cases_lt}
use Rattle.std.proofs.lemmas.Grind.{flat_map-append}
use Rattle.std.proofs.lemmas.List.{take_all, take_at, take-append-le}
use Rattle.std.specs.Io.KnownBytes.{append_known}
use Rattle.trace_base.specs.declared.part.Part.{Part}
use Rattle.trace_outside.specs.Writing.{Gained, GainedPrefix}
use Rattle.trace_outside.proofs.Gains.{gained_both, prefix_behind}
use Rattle.trace_outside.proofs.PendingLemmas.{prefix_longer}
use Rattle.trace_outside.specs.Pieces.{text_of}
use Rattle.subpage.specs.Cut.{reached_of}
use Rattle.time_merge.specs.declared.ending.End.{End}
use Rattle.time_merge.specs.declared.ending.End.TheVariants as code
use Rattle.time_merge.specs.declared.ending.IoFault.{IoFault}
use Rattle.time_merge.specs.declared.ending.IoFault.TheVariants as fault
use Rattle.report_print.specs.ContextData.{ContextData}
use Rattle.wakeup_pairs.specs.declared.wakeup_item.Pair.{Pair}
use Rattle.wakeup_pairs.specs.Gathered.{gathered}
use Rattle.wakeup_pairs.specs.Pairs.{ArePairs}
use Rattle.wakeup_pairs.proofs.Passing.{pass_pairs}
use Rattle.wakeup_pairs.proofs.Partners.{one_list}
use Rattle.wakeup_lat.specs.Roles.{all_seen}
use Rattle.wakeup_lat.specs.Section.{section}
use Rattle.file_report.specs.declared.report.Recording.{Recording}
use Rattle.run_endings.specs.declared.status.Status.TheVariants.{NoMemory, WriteFault}
use Rattle.run_endings.specs.Ending.{Prints}
use Rattle.run_endings.specs.Meaning.{Meaning}
use Rattle.file_report.specs.Meaning.{events_report, shown_report}
use Rattle.run_endings.specs.Outside.{SinkSeen}
use Rattle.run_endings.specs.Output.{Shows, Writes, WritesFor}
use Rattle.file_report.specs.Report.{Events, events_on, reached_items, waits_section}
use Rattle.run_endings.specs.Ends.{is_whole, status_of_end, status_or_memory}
use Rattle.run_endings.proofs.Endings.{unprinted}
use Rattle.run_endings.proofs.Printed.{printed_of}

-- a piece after others
text_more : (pieces : List (List ℕ)) (piece : List ℕ) → text_of (pieces ++ piece ∷ []) ≡ text_of pieces ++ piece
text_more pieces piece = flat_map-append (λ p. p) pieces (piece ∷ []) ∙ ap (λ (rest : List ℕ). text_of pieces ++ rest) (append-nil piece)

-- the first few pieces are also the first few of more
first_of_more : (pieces more : List (List ℕ)) (count : ℕ) → (few : ℕ) × (take few (pieces ++ more) ≡ take count pieces)
first_of_more pieces more count = elim (cases_lt (length pieces) count) [
  | inl less ↦ (length pieces, take_at pieces more (length pieces) refl ∙ sym (take_all count pieces (omega (arith, less))))
  | inr le ↦ (count, take-append-le count pieces more le)
]

-- the pairs that were gathered are those of the pass
waits_are : (events : Events) (pairs : List Pair) → ArePairs (all_seen events.given (reached_items events)) pairs → section events.given pairs ≡ waits_section events
waits_are events pairs are =
    ap (λ (ps : List Pair). section events.given ps)
    (one_list (all_seen events.given (reached_items events)) pairs (gathered (all_seen events.given (reached_items events))).pairs are (pass_pairs (all_seen events.given (reached_items events))))

module _ (given : ContextData) (shown : List (ℕ × Part)) (recording : Recording) where
  abbrev pub events : List ℕ → Events
  events bytes = events_on given shown recording bytes

  abbrev pub lines : List ℕ → Meaning
  lines bytes = events_report (events bytes)

  abbrev pub both : List ℕ → Meaning
  both bytes = shown_report true (events bytes)

  -- the lines were not all written
  stopped_one : (bytes : List ℕ) (end : Result End IoFault) (old now : Option (List ℕ)) → is_whole end ≡ false → Writes (lines bytes) (status_of_end end) old now → Writes (both bytes) (status_of_end end) old now
  stopped_one bytes (Ok code.Done) old now other writes = absurd cc
  stopped_one bytes (Ok (code.Malformed cut)) old now other writes = absurd cc
  stopped_one bytes (Err fault.Read) old now other writes =
      let few = first_of_more (lines bytes).pieces (waits_section (events bytes) ∷ []) writes.0 in
      (few.0, writes.1 ∙ ap (λ (pieces : List (List ℕ)). append_known old (text_of pieces)) (sym few.1))
  stopped_one bytes (Err fault.Write) old now other writes =
      subst (λ (whole : List ℕ). GainedPrefix old now whole) (sym (text_more (lines bytes).pieces (waits_section (events bytes))))
      (prefix_longer old now (text_of (lines bytes).pieces) (waits_section (events bytes)) writes)

  pub waits_stopped : (told old now : Option (List ℕ)) (end : Result End IoFault) → is_whole end ≡ false → WritesFor lines told (status_of_end end) old now → WritesFor both told (status_of_end end) old now
  waits_stopped None old now end other writes = tt
  waits_stopped (Some bytes) old now end other writes = stopped_one bytes end old now other writes

  -- a fault of reading that shows later shows from the beginning on
  pub stopped_shows : (early late : Type 0) (end : Result End IoFault) (before now : SinkSeen) → (late → early) → Shows late (status_of_end end) before now → Shows early (status_of_end end) before now
  stopped_shows early late (Ok code.Done) before now so shows = tt
  stopped_shows early late (Ok (code.Malformed cut)) before now so shows = tt
  stopped_shows early late (Err fault.Read) before now so shows = so shows
  stopped_shows early late (Err fault.Write) before now so shows = shows

  whole_shows : (unread : Type 0) (end : Result End IoFault) (before now : SinkSeen) → is_whole end ≡ true → Shows unread (status_of_end end) before now
  whole_shows unread (Ok code.Done) before now whole = tt
  whole_shows unread (Ok (code.Malformed cut)) before now whole = tt
  whole_shows unread (Err fault.Read) before now whole = absurd cc
  whole_shows unread (Err fault.Write) before now whole = absurd cc

  -- all of them were
  whole_lines : (bytes : List ℕ) (end : Result End IoFault) (old mid : Option (List ℕ)) → is_whole end ≡ true → Writes (lines bytes) (status_of_end end) old mid
      → (status_of_end end ≡ (lines bytes).status) × Gained old mid (text_of (lines bytes).pieces)
  whole_lines bytes (Ok code.Done) old mid whole writes = writes
  whole_lines bytes (Ok (code.Malformed cut)) old mid whole writes = writes
  whole_lines bytes (Err fault.Read) old mid whole writes = absurd cc
  whole_lines bytes (Err fault.Write) old mid whole writes = absurd cc

  whole_both : (bytes : List ℕ) (end : Result End IoFault) (old now : Option (List ℕ)) → is_whole end ≡ true → status_of_end end ≡ (both bytes).status → Gained old now (text_of (both bytes).pieces) → Writes (both bytes) (status_of_end end) old now
  whole_both bytes (Ok code.Done) old now whole is gained = (is, gained)
  whole_both bytes (Ok (code.Malformed cut)) old now whole is gained = (is, gained)
  whole_both bytes (Err fault.Read) old now whole is gained = absurd cc
  whole_both bytes (Err fault.Write) old now whole is gained = absurd cc

  -- that these pairs are those of the reached items
  abbrev pub HasPairs : List Pair → List ℕ → Type 0
  HasPairs pairs bytes = ArePairs (all_seen given (reached_of recording.layout bytes shown)) pairs

  both_text : (bytes : List ℕ) (pairs : List Pair) → HasPairs pairs bytes → text_of (lines bytes).pieces ++ section given pairs ≡ text_of (both bytes).pieces
  both_text bytes pairs are =
      ap (λ (piece : List ℕ). text_of (lines bytes).pieces ++ piece) (waits_are (events bytes) pairs are)
      ∙ sym (text_more (lines bytes).pieces (waits_section (events bytes)))

  pub waits_written : (told old mid now : Option (List ℕ)) (end : Result End IoFault) (pairs : List Pair) → is_whole end ≡ true → WritesFor lines told (status_of_end end) old mid
      → IfSome told (HasPairs pairs) → Gained mid now (section given pairs) → WritesFor both told (status_of_end end) old now
  waits_written None old mid now end pairs whole writes are gained = tt
  waits_written (Some bytes) old mid now end pairs whole writes are gained =
      let first = whole_lines bytes end old mid whole writes in
      whole_both bytes end old now whole first.0
      (gained_both old mid now (text_of (lines bytes).pieces) (section given pairs) first.1 gained ∙ ap (append_known old) (both_text bytes pairs are))

  pub waits_unwritten : (told old mid now : Option (List ℕ)) (end : Result End IoFault) (pairs : List Pair) → is_whole end ≡ true → WritesFor lines told (status_of_end end) old mid
      → IfSome told (HasPairs pairs) → GainedPrefix mid now (section given pairs) → WritesFor both told WriteFault old now
  waits_unwritten None old mid now end pairs whole writes are gained = tt
  waits_unwritten (Some bytes) old mid now end pairs whole writes are gained =
      let first = whole_lines bytes end old mid whole writes in
      prefix_behind old mid now (text_of (lines bytes).pieces) (section given pairs) [] (text_of (both bytes).pieces)
      (sym (both_text bytes pairs are) ∙ ap (λ (rest : List ℕ). text_of (lines bytes).pieces ++ rest) (sym (append-nil (section given pairs))))
      first.1 gained

  pub waits_shows : (unread : Type 0) (end : Result End IoFault) (before now : SinkSeen) → is_whole end ≡ true → Shows unread (status_of_end end) before now
  waits_shows unread end before now whole = whole_shows unread end before now whole

-- BY THE WORDS

-- lines alone, or no memory for them
pub lines_prints : (unread : Type 0) (means : List ℕ → Meaning) (told : Option (List ℕ)) (result : Option (Result End IoFault)) (before now : SinkSeen) → ((bytes : List ℕ) → (means bytes).files ≡ [])
    → IfSome result (λ end. WritesFor means told (status_of_end end) before.written now.written) → IfSome result (λ end. Shows unread (status_of_end end) before now)
    → IfNone result (now ≡ before) → Prints unread (option_map means told) (status_or_memory result) before now
lines_prints unread means told None before now none writes shows same =
    subst (λ (seen : SinkSeen). Prints unread (option_map means told) NoMemory before seen) (sym same) (unprinted unread (option_map means told) before)
lines_prints unread means told (Some end) before now none writes shows same = printed_of unread means told (status_of_end end) before now none writes shows
