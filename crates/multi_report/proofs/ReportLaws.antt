-- A whole report of several files, from its first lines on.
use Rattle.std.proofs.Common.{◌≡◌, ℕ, ◌<◌, List, [], ◌++◌, length, map, Option, Some, None, Result, Ok, Err, IfErr, IsErrAnd, refl, sym, ap, subst, ◌∙◌, arith}
use Rattle.std.specs.Option.{IsSome}
use Rattle.std.specs.List.{All}
use Rattle.std.proofs.lemmas.List.{length-map}
use Rattle.trace_outside.specs.Pending.{Holds}
use Rattle.trace_outside.specs.Writing.{Gained, GainedPrefix}
use Rattle.trace_outside.proofs.PendingLemmas.{holds_nothing}
use Rattle.trace_outside.specs.Pieces.{text_of}
use Rattle.multi_report.specs.declared.report.FilesEnd.{FilesEnd}
use Rattle.multi_report.specs.declared.report.FilesFault.{FilesFault}
use Rattle.multi_report.specs.declared.report.FilesFault.TheVariants as fault
use Rattle.multi_report.specs.Order.{FileCut, ShownFile, cut_of_files, reached}
use Rattle.tournament_tree.specs.declared.slot_key.SlotKey.{SlotKey}
use Rattle.multi_report.specs.Sources.{SourceView, HasOwnLayouts, IsFreshSource, IsKnown, Keeps, shown_of, next_key, to_come_of}
use Rattle.multi_report.specs.Reports.{AreSame, IsEnded, IsFilesReport, ReadRose, head_line, lines, pieces}
use Rattle.multi_report.specs.Turns.{Going, IsTurned, IsUnderway, ReportState, lines_left, state_of}
use Rattle.multi_report.proofs.Files.{Tied, all_fresh_known, fresh_left, keeps_same, known_all, left_keeps, same_shown}
use Rattle.multi_report.proofs.Going.{end_read, prefix_of_whole, waiting_stopped}

-- all pieces of files
abbrev pub whole_of : List SourceView → List (List ℕ)
whole_of sources = pieces (map shown_of sources)

abbrev pub heads_of : List SourceView → List (List ℕ)
heads_of sources = map head_line (map shown_of sources)

-- the first lines are on their way, and the lines of all items are left
going_heads : (first : List SourceView) (before written : Option (List ℕ)) (waiting waiting_now : List ℕ) → waiting ≡ []
    → ((b : Option (List ℕ)) (text : List ℕ) → Holds b before waiting text → Holds b written waiting_now (text ++ text_of (heads_of first)))
    → Going before (whole_of first) written waiting_now (lines (map shown_of first) (reached (map shown_of first)))
going_heads first before written waiting waiting_now empty puts = record {
  done = heads_of first;
  holds = puts before [] (subst (λ (w : List ℕ). Holds before before w []) (sym empty) (holds_nothing before));
  parted = refl;
}

-- the first lines could not be written
pub heads_stopped : (first : List SourceView) (before written : Option (List ℕ)) (waiting : List ℕ) → waiting ≡ []
    → ((b : Option (List ℕ)) (text : List ℕ) → Holds b before waiting text → GainedPrefix b written (text ++ text_of (heads_of first)))
    → GainedPrefix before written (text_of (whole_of first))
heads_stopped first before written waiting empty puts =
    prefix_of_whole before written (whole_of first) (heads_of first) (lines (map shown_of first) (reached (map shown_of first))) refl
    (puts before [] (subst (λ (w : List ℕ). Holds before before w []) (sym empty) (holds_nothing before)))

pub underway_first : (first now : List SourceView) (keys : List SlotKey) (before written : Option (List ℕ)) (waiting waiting_now : List ℕ) → All HasOwnLayouts first → All IsFreshSource first → All (λ source. IsSome source.told) first → waiting ≡ []
    → length now ≡ length first → Tied Keeps first now → (All IsKnown now → keys ≡ map next_key now)
    → ((b : Option (List ℕ)) (text : List ℕ) → Holds b before waiting text → Holds b written waiting_now (text ++ text_of (heads_of first)))
    → IsUnderway before (whole_of first) (state_of now keys written waiting_now)
underway_first first now keys before written waiting waiting_now layouts fresh told empty long tied keys_are puts =
    let known = known_all first now long tied (all_fresh_known first layouts fresh told) in
    let all_shown : map shown_of now ≡ map shown_of first = same_shown first now (keeps_same first now long tied) in
    let left : to_come_of now ≡ reached (map shown_of first) = left_keeps first now long tied (all_fresh_known first layouts fresh told) ∙ fresh_left first layouts fresh in
    let rest : lines_left now ≡ lines (map shown_of first) (reached (map shown_of first)) = ap (λ (gs : List ShownFile). lines gs (to_come_of now)) all_shown ∙ ap (lines (map shown_of first)) left in
    record {
      known = known;
      keys_are = keys_are known;
      going = subst (Going before (whole_of first) written waiting_now) (sym rest) (going_heads first before written waiting waiting_now empty puts);
    }

-- a read failed before the first item
pub read_first : (first : List SourceView) (cut : Option FileCut) (before written new : Option (List ℕ)) (waiting waiting_now : List ℕ) (file : ℕ) → waiting ≡ []
    → ((b : Option (List ℕ)) (text : List ℕ) → Holds b before waiting text → Holds b written waiting_now (text ++ text_of (heads_of first)))
    → Gained written new waiting_now
    → IsEnded (whole_of first) cut before new (Err (fault.Read file))
read_first first cut before written new waiting waiting_now file empty puts gained =
    end_read before (whole_of first) cut written new waiting_now (lines (map shown_of first) (reached (map shown_of first))) file gained
    (going_heads first before written waiting waiting_now empty puts)

-- and what waited could not be written
pub first_stopped : (first : List SourceView) (before written new : Option (List ℕ)) (waiting waiting_now : List ℕ) → waiting ≡ []
    → ((b : Option (List ℕ)) (text : List ℕ) → Holds b before waiting text → Holds b written waiting_now (text ++ text_of (heads_of first)))
    → GainedPrefix written new waiting_now
    → GainedPrefix before new (text_of (whole_of first))
first_stopped first before written new waiting waiting_now empty puts stopped =
    waiting_stopped before (whole_of first) written new waiting_now (lines (map shown_of first) (reached (map shown_of first))) stopped
    (going_heads first before written waiting waiting_now empty puts)

-- a count that rose since a turn began rose since the report began
pub read_from : (why : FilesFault) (first before now : List SourceView) → AreSame first before → ReadRose why before now → ReadRose why first now
read_from (fault.Read file) first before now same rose =
    let inside : file < length first = omega (arith, same.count, rose.0) in
    (inside, λ d. omega (arith, (same.each file d inside).faults, rose.1 d))
read_from fault.Write first before now same rose = tt

-- where all files tell their bytes, the report of them goes on
abbrev pub IsOnWay : List SourceView → Option (List ℕ) → ReportState → Type 0
IsOnWay first before state = All (λ source. IsSome source.told) first → IsUnderway before (whole_of first) state

-- a report that began and ended, told by what the files were
pub report_is : (first now : List SourceView) (before new : Option (List ℕ)) (end : Result FilesEnd FilesFault) → AreSame first now → IsEnded (whole_of first) (cut_of_files (map shown_of now)) before new end
    → IsFilesReport (map shown_of first) before new end
report_is first now before new end same ended = subst (λ (gs : List ShownFile). IsEnded (whole_of first) (cut_of_files gs) before new end) (same_shown first now same) ended

-- a turn that goes on, and one that ends the report
pub still_underway : (before : Option (List ℕ)) (whole : List (List ℕ)) (state : ReportState) (end : Option FilesEnd) → end ≡ None → IsTurned before whole state (Ok end) → IsUnderway before whole state
still_underway before whole state end is turned = subst (λ (e : Option FilesEnd). IsTurned before whole state (Ok e)) is turned

pub turned_last : (before : Option (List ℕ)) (whole : List (List ℕ)) (state : ReportState) (end : Option FilesEnd) (last : FilesEnd) → end ≡ Some last → IsTurned before whole state (Ok end)
    → IsEnded whole (cut_of_files (map shown_of state.sources)) before state.written (Ok last)
turned_last before whole state end last is turned = subst (λ (e : Option FilesEnd). IsTurned before whole state (Ok e)) is turned

-- what is told where a fault is handed on
pub handed : (P : FilesFault → Type 0) (why : FilesFault) (result : Result FilesEnd FilesFault) → IsErrAnd result (λ w. w ≡ why) → P why → IfErr result P
handed P why (Ok end) is here = absurd is
handed P why (Err w) is here = subst P (sym is) here

pub report_stopped : (first now : List SourceView) (before new : Option (List ℕ)) (why : FilesFault) (result : Result FilesEnd FilesFault) → IsErrAnd result (λ w. w ≡ why) → AreSame first now
    → IsEnded (whole_of first) (cut_of_files (map shown_of now)) before new (Err why) → IsFilesReport (map shown_of first) before new result
report_stopped first now before new why (Ok end) is same ended = absurd is
report_stopped first now before new why (Err w) is same ended =
    subst (λ (f : FilesFault). IsFilesReport (map shown_of first) before new (Err f)) (sym is) (report_is first now before new (Err why) same ended)

-- a tree has a slot for each file still
pub slots_on : {S : Type 0} (f : S → SourceView) (xs ys : List S) (keys now : List SlotKey) → AreSame (map f xs) (map f ys) → length keys ≡ length xs → length now ≡ length keys → length now ≡ length ys
slots_on f xs ys keys now same slots still = omega (arith, same.count, slots, still, length-map xs f, length-map ys f)
