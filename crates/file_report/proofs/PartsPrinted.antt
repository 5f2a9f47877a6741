-- A report of processors' parts: the first line, and after it the lines of the reached items.
use Rattle.std.proofs.Common.{◌≡◌, ℕ, suc, List, [], ◌∷◌, ◌++◌, map, take, Option, None, Some, IfSome, Result, Ok, Err, refl, sym, ap, ◌∙◌, subst}
use Rattle.std.proofs.lemmas.List.{append-nil, take-map}
use Rattle.std.proofs.lemmas.List.Concat.{flat_map-cons}
use Rattle.std.specs.Io.KnownBytes.{append_known}
use Rattle.trace_base.specs.declared.layout.Layout.{Layout}
use Rattle.trace_base.specs.declared.part.Part.{Part}
use Rattle.trace_outside.specs.Writing.{Gained, GainedPrefix}
use Rattle.trace_outside.proofs.Gains.{gained_both, prefix_behind}
use Rattle.trace_outside.proofs.PendingLemmas.{prefix_longer}
use Rattle.trace_outside.specs.Pieces.{text_of}
use Rattle.line_holes.specs.Holes.{filled_bytes, filled_lines, hole_time}
use Rattle.line_holes.proofs.AlongLaws.{along_take}
use Rattle.subpage.specs.Arrangement.{Keyed}
use Rattle.subpage.specs.Cut.{cut_of, reached_of}
use Rattle.time_merge.specs.declared.ending.End.{End}
use Rattle.time_merge.specs.declared.ending.End.TheVariants as code
use Rattle.time_merge.specs.declared.ending.IoFault.{IoFault}
use Rattle.time_merge.specs.declared.ending.IoFault.TheVariants as fault
use Rattle.report_rounds.specs.Reports.{IsReport, lines_text}
use Rattle.report_print.specs.ContextData.{ContextData}
use Rattle.file_report.specs.declared.report.Recording.{Recording}
use Rattle.run_endings.specs.declared.status.Status.TheVariants.{WriteFault}
use Rattle.run_endings.specs.Meaning.{Meaning, ended, prints}
use Rattle.file_report.specs.Meaning.{events_report}
use Rattle.report_context.specs.Lines.{cpus_line, item_line}
use Rattle.file_report.specs.Report.{entry_line, events_on, report_pieces}
use Rattle.run_endings.specs.Ends.{status_of_end}
use Rattle.run_endings.specs.Output.{Writes, WritesFor}

lines_are : (given : ContextData) (items : List Keyed) → lines_text (item_line given) items ≡ text_of (filled_lines None (map (entry_line given) items))
lines_are given items = refl

-- the report's text: the first line, and then those of the items
report_text : (cpus : ℕ) (given : ContextData) (items : List Keyed) → cpus_line cpus ++ lines_text (item_line given) items ≡ text_of (report_pieces cpus given items)
report_text cpus given items =
    ap (λ rest. cpus_line cpus ++ rest) (lines_are given items)
    ∙ sym (flat_map-cons (λ piece. piece) (cpus_line cpus) (filled_lines None (map (entry_line given) items)))

-- the first few of its pieces
first_text : (cpus : ℕ) (given : ContextData) (items : List Keyed) (count : ℕ)
    → cpus_line cpus ++ lines_text (item_line given) (take count items) ≡ text_of (take (suc count) (report_pieces cpus given items))
first_text cpus given items count =
    report_text cpus given (take count items) ∙ ap (λ (lines : List (List ℕ)). text_of (cpus_line cpus ∷ lines)) (sym (along_take hole_time filled_bytes count None (map (entry_line given) items) ∙ ap (filled_lines None) (take-map (entry_line given) count items)))

module _ (cpus : ℕ) (given : ContextData) (layout : Layout) (bytes : List ℕ) (parts : List (ℕ × Part)) where
  abbrev items : List Keyed
  items = reached_of layout bytes parts

  whole : (old mid now : Option (List ℕ)) → Gained old mid (cpus_line cpus) → Gained mid now (lines_text (item_line given) items) → Gained old now (text_of (report_pieces cpus given items))
  whole old mid now first gained =
      gained_both old mid now (cpus_line cpus) (lines_text (item_line given) items) first gained ∙ ap (append_known old) (report_text cpus given items)

  -- by how the rounds after the first line ended
  report_written : (old mid now : Option (List ℕ)) (end : Result End IoFault) → Gained old mid (cpus_line cpus) → IsReport (item_line given) layout bytes parts mid now end
      → Writes (prints (report_pieces cpus given items) (ended (cut_of layout bytes parts))) (status_of_end end) old now
  report_written old mid now (Ok code.Done) first report = (sym (ap ended report.1), whole old mid now first report.0)
  report_written old mid now (Ok (code.Malformed cut)) first report = (sym (ap ended report.1.1), whole old mid now first report.0)
  report_written old mid now (Err fault.Read) first report = (
    suc report.0,
    gained_both old mid now (cpus_line cpus) (lines_text (item_line given) (take report.0 items)) first report.1
        ∙ ap (append_known old) (first_text cpus given items report.0),
  )
  report_written old mid now (Err fault.Write) first report =
      prefix_behind old mid now (cpus_line cpus) (lines_text (item_line given) items) [] (text_of (report_pieces cpus given items))
      (sym (report_text cpus given items) ∙ ap (λ rest. cpus_line cpus ++ rest) (sym (append-nil (lines_text (item_line given) items))))
      first report

module _ (given : ContextData) (shown : List (ℕ × Part)) (recording : Recording) where
  abbrev means : List ℕ → Meaning
  means bytes = events_report (events_on given shown recording bytes)

  pub parts_written : (told : Option (List ℕ)) (old mid now : Option (List ℕ)) (end : Result End IoFault) → Gained old mid (cpus_line recording.cpus)
      → IfSome told (λ bytes. IsReport (item_line given) recording.layout bytes shown mid now end) → WritesFor means told (status_of_end end) old now
  parts_written None old mid now end first report = tt
  parts_written (Some bytes) old mid now end first report = report_written recording.cpus given recording.layout bytes shown old mid now end first report

  pub parts_unbegun : (told : Option (List ℕ)) (old now : Option (List ℕ)) → GainedPrefix old now (cpus_line recording.cpus) → WritesFor means told WriteFault old now
  parts_unbegun None old now first = tt
  parts_unbegun (Some bytes) old now first =
      let items = reached_of recording.layout bytes shown in
      subst (λ (all : List ℕ). GainedPrefix old now all) (report_text recording.cpus given items)
      (prefix_longer old now (cpus_line recording.cpus) (lines_text (item_line given) items) first)
