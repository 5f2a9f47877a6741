-- What a report of events reads: no more than is due by what it wrote.
use Rattle.std.proofs.Common.{◌≡◌, ◌≤◌, ◌+◌, ℕ, Bool, true, List, [], ◌++◌, drop, length, Option, None, Some, IfSome, refl, sym, ap, subst, ◌∙◌, arith}
use Rattle.std.specs.Prelude.{if◌then◌else◌, nat_eq}
use Rattle.std.specs.List.{starts_with}
use lib.Pointwise.{pointwise}
use Rattle.std.proofs.Math.Seq.{drop-append_seam}
use Rattle.std.proofs.lemmas.Cmp.{nat_list_eq_equiv}
use Rattle.std.proofs.lemmas.List.{take_at}
use Rattle.trace_base.specs.declared.part.Part.{Part}
use Rattle.trace_outside.specs.Causes.{raised}
use Rattle.trace_outside.specs.Writing.{Gained, GainedPrefix}
use Rattle.trace_outside.proofs.Gains.{gained_both, gained_nothing}
use Rattle.file_report.specs.declared.report.Recording.{Recording}
use Rattle.report_print.specs.ContextData.{ContextData}
use Rattle.report_rounds.specs.Due.{due_bytes, ReadsDue as RoundsDue}
use Rattle.file_report.specs.Due.{ReadsDue, behind_first, due_of}
use Rattle.run_endings.specs.Progress.{progress_at}
use Rattle.file_report.specs.Report.{Events, events_on}
use Rattle.report_context.specs.Lines.{cpus_line, item_line}

begins : (first rest : List ℕ) → starts_with nat_eq (first ++ rest) first ≡ true
begins first rest = ap (pointwise nat_eq first) (take_at first rest (length first) refl) ∙ nat_list_eq_equiv.refl first

behind_line : (cpus : ℕ) (rest : List ℕ) → behind_first cpus (cpus_line cpus ++ rest) ≡ rest
behind_line cpus rest =
    ap (λ (whole : Bool). if whole then drop (length (cpus_line cpus)) (cpus_line cpus ++ rest) else []) (begins (cpus_line cpus) rest)
    ∙ drop-append_seam (cpus_line cpus) rest

module _ (given : ContextData) (shown : List (ℕ × Part)) (recording : Recording) where
  abbrev events : List ℕ → Events
  events bytes = events_on given shown recording bytes

  -- nothing was read
  unread_told : (told : Option (List ℕ)) (old now : Option (List ℕ)) (reads : ℕ) (written : List ℕ) → Gained old now written
      → IfSome told (λ bytes. ReadsDue (events bytes) 0 (progress_at old reads) (progress_at now reads))
  unread_told None old now reads written gained = tt
  unread_told (Some bytes) old now reads written gained = (written, (gained, omega arith))

  pub parts_unread : (told old : Option (List ℕ)) (reads : ℕ) → IfSome told (λ bytes. ReadsDue (events bytes) 0 (progress_at old reads) (progress_at old reads))
  parts_unread told old reads = unread_told told old old reads [] (gained_nothing old)

  pub parts_unbegun_unread : (told old now : Option (List ℕ)) (reads : ℕ) → GainedPrefix old now (cpus_line recording.cpus)
      → IfSome told (λ bytes. ReadsDue (events bytes) 0 (progress_at old reads) (progress_at now reads))
  parts_unbegun_unread told old now reads first = unread_told told old now reads _ first.1

  -- the first line was written, and the rounds read what is due by the text after it
  parts_read_of : (bytes : List ℕ) (old mid now : Option (List ℕ)) (before reads : ℕ) → Gained old mid (cpus_line recording.cpus)
      → RoundsDue (item_line given) recording.layout bytes shown mid now before reads → ReadsDue (events bytes) 0 (progress_at old before) (progress_at now reads)
  parts_read_of bytes old mid now before reads first due =
      (cpus_line recording.cpus ++ due.0, (gained_both old mid now (cpus_line recording.cpus) due.0 first due.1.0, within))
    where
      there : due_of (events bytes) (cpus_line recording.cpus ++ due.0) ≡ due_bytes (item_line given) recording.layout bytes shown due.0
      there = ap (due_bytes (item_line given) recording.layout bytes shown) (behind_line recording.cpus due.0)

      within : reads ≤ raised before (0 + due_of (events bytes) (cpus_line recording.cpus ++ due.0))
      within = subst (λ (n : ℕ). reads ≤ raised before (0 + n)) (sym there) (omega (arith, due.1.1))

  pub parts_read : (told old mid now : Option (List ℕ)) (before reads : ℕ) → Gained old mid (cpus_line recording.cpus)
      → IfSome told (λ bytes. RoundsDue (item_line given) recording.layout bytes shown mid now before reads)
      → IfSome told (λ bytes. ReadsDue (events bytes) 0 (progress_at old before) (progress_at now reads))
  parts_read None old mid now before reads first due = tt
  parts_read (Some bytes) old mid now before reads first due = parts_read_of bytes old mid now before reads first due
