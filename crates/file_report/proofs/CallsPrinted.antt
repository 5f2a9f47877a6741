-- A report of calls: the first line, and after it those of the calls.
use Rattle.std.proofs.Common.{◌≡◌, ℕ, List, [], ◌∷◌, ◌++◌, map, Option, None, Some, IfSome, refl, sym, ap, ◌∙◌, subst, ◌≢◌}
use Rattle.std.proofs.lemmas.List.Concat.{flat_map-cons}
use Rattle.std.specs.List.{flat_map}
use Rattle.trace_base.specs.declared.part.Part.{Part}
use Rattle.trace_outside.specs.Writing.{Gained, GainedPrefix}
use Rattle.trace_outside.specs.Pieces.{text_of}
use Rattle.subpage.specs.declared.cut_place.CutPlace.{CutPlace}
use Rattle.subpage.specs.Cut.{cut_of}
use Rattle.report_print.specs.ContextData.{ContextData}
use Rattle.file_report.specs.declared.report.Recording.{Recording}
use Rattle.call_pairs.specs.declared.call.Call.{Call}
use Rattle.graph_report.specs.CallText.{call_line}
use Rattle.graph_report.specs.Gathered.{cut_place, reached_calls}
use Rattle.run_endings.specs.declared.status.Status.TheVariants.{ReadFault, WriteFault}
use Rattle.run_endings.specs.Ends.{status_of_cut}
use Rattle.run_endings.specs.Meaning.{Meaning}
use Rattle.file_report.specs.Meaning.{calls_report}
use Rattle.run_endings.specs.Outside.{SinkSeen}
use Rattle.file_report.specs.Report.{call_pieces, events_on}
use Rattle.report_context.specs.Lines.{cpus_line}
use Rattle.run_endings.specs.Output.{Shows, Writes, WritesFor}

calls_lines : (given : ContextData) (calls : List Call) → flat_map (call_line given) calls ≡ text_of (map (call_line given) calls)
calls_lines given [] = refl
calls_lines given (x ∷ xs) =
    flat_map-cons (call_line given) x xs ∙ ap (λ rest. call_line given x ++ rest) (calls_lines given xs)
    ∙ sym (flat_map-cons (λ piece. piece) (call_line given x) (map (call_line given) xs))

-- the first line, and after it the lines of calls
pub calls_text : (cpus : ℕ) (given : ContextData) (calls : List Call) → cpus_line cpus ++ flat_map (call_line given) calls ≡ text_of (call_pieces cpus given calls)
calls_text cpus given calls =
    ap (λ rest. cpus_line cpus ++ rest) (calls_lines given calls)
    ∙ sym (flat_map-cons (λ piece. piece) (cpus_line cpus) (map (call_line given) calls))

writes_at : (m : Meaning) (cut : Option CutPlace) (old now : Option (List ℕ)) → status_of_cut cut ≡ m.status → Gained old now (text_of m.pieces) → Writes m (status_of_cut cut) old now
writes_at m None old now is gained = (is, gained)
writes_at m (Some place) old now is gained = (is, gained)

-- where all was written, no fault shows
pub cut_shows : (unread : Type 0) (cut : Option CutPlace) (before now : SinkSeen) → Shows unread (status_of_cut cut) before now
cut_shows unread None before now = tt
cut_shows unread (Some place) before now = tt

-- nor was it a fault of reading
pub cut_no_fault : (cut : Option CutPlace) → status_of_cut cut ≢ ReadFault
cut_no_fault None = λ is. cc
cut_no_fault (Some place) = λ is. cc

module _ (given : ContextData) (shown : List (ℕ × Part)) (recording : Recording) where
  abbrev means : List ℕ → Meaning
  means bytes = calls_report (events_on given shown recording bytes)

  -- the text that was put is that of the meaning
  text_is : (list : List Call) (bytes : List ℕ) → list ≡ reached_calls given recording.layout bytes shown → text_of (call_pieces recording.cpus given list) ≡ text_of ((means bytes).pieces)
  text_is list bytes list_is = ap (λ (calls : List Call). text_of (call_pieces recording.cpus given calls)) list_is

  pub calls_written : (told : Option (List ℕ)) (list put : List Call) (cut : Option CutPlace) (old now : Option (List ℕ)) → put ≡ list
      → IfSome told (λ bytes. list ≡ reached_calls given recording.layout bytes shown)
      → IfSome told (λ bytes. cut ≡ cut_place (cut_of recording.layout bytes shown))
      → Gained old now (text_of (call_pieces recording.cpus given put)) → WritesFor means told (status_of_cut cut) old now
  calls_written None list put cut old now put_is list_is cut_is gained = tt
  calls_written (Some bytes) list put cut old now put_is list_is cut_is gained =
      writes_at (means bytes) cut old now (ap status_of_cut cut_is)
      (subst (λ (t : List ℕ). Gained old now t) (text_is put bytes (put_is ∙ list_is)) gained)

  pub calls_unwritten : (told : Option (List ℕ)) (list put : List Call) (old now : Option (List ℕ)) → put ≡ list
      → IfSome told (λ bytes. list ≡ reached_calls given recording.layout bytes shown)
      → GainedPrefix old now (text_of (call_pieces recording.cpus given put)) → WritesFor means told WriteFault old now
  calls_unwritten None list put old now put_is list_is prefix = tt
  calls_unwritten (Some bytes) list put old now put_is list_is prefix =
      subst (λ (t : List ℕ). GainedPrefix old now t) (text_is put bytes (put_is ∙ list_is)) prefix
