-- A report of files that goes on by one piece, and its ends.
use Rattle.std.proofs.Common.{◌≡◌, ℕ, ◌<◌, List, [], ◌∷◌, ◌++◌, length, get_or, map, take, Option, Some, refl, sym, ap, subst, ◌∙◌, append_assoc, arith, Result, Ok, Err, IsErrAnd}
use Rattle.std.specs.Option.{option_map, unwrap_or}
use Rattle.std.proofs.lemmas.List.{append-nil, take_at, get_or-map, length-map}
use Rattle.std.proofs.lemmas.Grind.{flat_map-append}
use Rattle.std.proofs.lemmas.Option.{slice_get-get_or}
use Rattle.trace_outside.specs.Pending.{Holds}
use Rattle.trace_outside.specs.Writing.{Gained, GainedPrefix}
use Rattle.trace_outside.proofs.PendingLemmas.{flush_stopped, flushed, prefix_longer}
use Rattle.trace_outside.specs.Pieces.{text_of}
use Rattle.subpage.specs.Arrangement.{Keyed}
use Rattle.multi_report.specs.declared.report.FilesEnd.{FilesEnd}
use Rattle.multi_report.specs.declared.report.FilesFault.{FilesFault}
use Rattle.multi_report.specs.declared.report.FilesFault.TheVariants as fault
use Rattle.multi_report.specs.Order.{ShownFile, FileCut, cut_of_files, in_file}
use Rattle.multi_report.specs.Sources.{SourceView, shown_of}
use Rattle.multi_report.specs.Reports.{IsEnded, line_in, line_of}
use Rattle.multi_report.specs.Turns.{Going, HasBegun, IsTurned, ReportState}

pub text_append : (xs ys : List (List ℕ)) → text_of (xs ++ ys) ≡ text_of xs ++ text_of ys
text_append xs ys = flat_map-append (λ (p : List ℕ). p) xs ys

text_one : (xs : List (List ℕ)) (p : List ℕ) → text_of (xs ++ p ∷ []) ≡ text_of xs ++ p
text_one xs p = text_append xs (p ∷ []) ∙ ap (λ (t : List ℕ). text_of xs ++ t) (append-nil p)

-- what was put before an end
all_put : (before : Option (List ℕ)) (whole : List (List ℕ)) (written : Option (List ℕ)) (waiting : List ℕ) (rest : List (List ℕ)) (g : Going before whole written waiting rest)
    → rest ≡ [] → Holds before written waiting (text_of whole)
all_put before whole written waiting rest g none =
    subst (λ (ps : List (List ℕ)). Holds before written waiting (text_of ps)) (sym (g.parted ∙ ap (λ (r : List (List ℕ)). g.done ++ r) none ∙ append-nil g.done)) g.holds

pub prefix_of_whole : (before now : Option (List ℕ)) (whole done rest : List (List ℕ)) → whole ≡ done ++ rest → GainedPrefix before now (text_of done) → GainedPrefix before now (text_of whole)
prefix_of_whole before now whole done rest is p =
    subst (GainedPrefix before now) (sym (ap text_of is ∙ text_append done rest)) (prefix_longer before now (text_of done) (text_of rest) p)

-- all was put, and what waited was written
pub whole_gained : (before : Option (List ℕ)) (whole : List (List ℕ)) (old new : Option (List ℕ)) (waiting : List ℕ) (rest : List (List ℕ))
    → Gained old new waiting → Going before whole old waiting rest → rest ≡ [] → Gained before new (text_of whole)
whole_gained before whole old new waiting rest gained going none =
    flushed before old new waiting (text_of whole) (all_put before whole old waiting rest going none) gained

-- the first pieces were put, and what waited was written
pub end_read : (before : Option (List ℕ)) (whole : List (List ℕ)) (cut : Option FileCut) (old new : Option (List ℕ)) (waiting : List ℕ) (rest : List (List ℕ)) (file : ℕ)
    → Gained old new waiting → Going before whole old waiting rest → IsEnded whole cut before new (Err (fault.Read file))
end_read before whole cut old new waiting rest file gained going =
    let front : take (length going.done) whole ≡ going.done = ap (take (length going.done)) going.parted ∙ take_at going.done rest (length going.done) refl in (
      length going.done,
      subst (λ (ps : List (List ℕ)). Gained before new (text_of ps)) (sym front) (flushed before old new waiting (text_of going.done) going.holds gained),
    )

-- a write failed
pub end_write : (before : Option (List ℕ)) (whole : List (List ℕ)) (cut : Option FileCut) (new : Option (List ℕ)) (why : FilesFault) → why ≡ fault.Write → GainedPrefix before new (text_of whole)
    → IsEnded whole cut before new (Err why)
end_write before whole cut new why is stopped = subst (λ (w : FilesFault). IsEnded whole cut before new (Err w)) (sym is) stopped

-- what waited could not be written
pub waiting_stopped : (before : Option (List ℕ)) (whole : List (List ℕ)) (old new : Option (List ℕ)) (waiting : List ℕ) (rest : List (List ℕ))
    → GainedPrefix old new waiting → Going before whole old waiting rest → GainedPrefix before new (text_of whole)
waiting_stopped before whole old new waiting rest stopped going =
    prefix_of_whole before new whole going.done rest going.parted (flush_stopped before old new waiting (text_of going.done) going.holds stopped)

-- the line of an item of one of the files
pub line_at : (sources : List SourceView) (j : ℕ) (d : SourceView) (x : Keyed) → j < length sources → line_in (map shown_of sources) (in_file j x) ≡ line_of (shown_of (get_or sources j d)) x
line_at sources j d x lt =
    ap (λ (o : Option ShownFile). unwrap_or (option_map (λ file. line_of file x) o) [])
    (slice_get-get_or (map shown_of sources) j (shown_of d) (omega (arith, length-map sources shown_of, lt)) ∙ ap Some (get_or-map shown_of sources j d (shown_of d) lt))

-- a piece that was put
pub put_one : (before : Option (List ℕ)) (whole : List (List ℕ)) (old new : Option (List ℕ)) (waiting waiting_now : List ℕ) (piece : List ℕ) (rest : List (List ℕ))
    → ((b : Option (List ℕ)) (text : List ℕ) → Holds b old waiting text → Holds b new waiting_now (text ++ piece))
    → Going before whole old waiting (piece ∷ rest) → Going before whole new waiting_now rest
put_one before whole old new waiting waiting_now piece rest puts going = record {
  done = going.done ++ piece ∷ [];
  holds = subst (Holds before new waiting_now) (sym (text_one going.done piece)) (puts before (text_of going.done) going.holds);
  parted = going.parted ∙ sym (append_assoc going.done (piece ∷ []) rest);
}

pub put_stopped : (before : Option (List ℕ)) (whole : List (List ℕ)) (old new : Option (List ℕ)) (waiting : List ℕ) (piece : List ℕ) (rest : List (List ℕ))
    → ((b : Option (List ℕ)) (text : List ℕ) → Holds b old waiting text → GainedPrefix b new (text ++ piece))
    → Going before whole old waiting (piece ∷ rest) → GainedPrefix before new (text_of whole)
put_stopped before whole old new waiting piece rest puts going =
    prefix_of_whole before new whole (going.done ++ piece ∷ []) rest (going.parted ∙ sym (append_assoc going.done (piece ∷ []) rest))
    (subst (GainedPrefix before new) (sym (text_one going.done piece)) (puts before (text_of going.done) going.holds))

-- a turn that a write stopped, and a report that one stopped before its first item
pub turned_write : (before : Option (List ℕ)) (whole : List (List ℕ)) (state : ReportState) (result : Result (Option FilesEnd) FilesFault) → IsErrAnd result (λ why. why ≡ fault.Write)
    → GainedPrefix before state.written (text_of whole) → IsTurned before whole state result
turned_write before whole state (Ok end) is stopped = absurd is
turned_write before whole state (Err why) is stopped = end_write before whole (cut_of_files (map shown_of state.sources)) state.written why is stopped

pub begun_write : (before : Option (List ℕ)) (whole : List (List ℕ)) (state : ReportState) (result : Result Unit FilesFault) → IsErrAnd result (λ why. why ≡ fault.Write)
    → GainedPrefix before state.written (text_of whole) → HasBegun before whole state result
begun_write before whole state (Ok begun) is stopped = absurd is
begun_write before whole state (Err why) is stopped = end_write before whole (cut_of_files (map shown_of state.sources)) state.written why is stopped
