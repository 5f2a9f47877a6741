-- The report of files that are open, as what a run of it did.
use Rattle.std.proofs.Common.{inl, inr, ◌≡◌, ◌≤◌, ◌<◌, ◌+◌, suc, ℕ, List, [], ◌∷◌, length, get_or, map, Option, Some, None, Result, Ok, Err, IfErr, IfSome, refl, sym, ap, ◌∙◌, subst, arith}
use Rattle.std.specs.Prelude.{Bool, true, false, if◌then◌else◌, IsSome, sum_by, Contains, ◌⊎◌, IfOk, fold, filter_map, slice_get}
use Rattle.std.specs.Option.{option_map}
use Rattle.std.specs.List.{cons_option, All}
use Rattle.std.proofs.lemmas.List.{get_or-map, length-map}
use Rattle.std.proofs.lemmas.List.Elements.{All-map}
use Rattle.std.proofs.lemmas.List.Sums.{sum_by-cons}
use Rattle.std.proofs.lemmas.Option.{slice_get_cases}
use Rattle.trace_outside.specs.Causes.{Rose}
use Rattle.trace_outside.specs.Names.{NamedFiles}
use Rattle.multi_report.specs.declared.report.FilesEnd.{FilesEnd}
use Rattle.multi_report.specs.declared.report.FilesEnd.TheVariants as end
use Rattle.multi_report.specs.declared.report.FilesFault.{FilesFault}
use Rattle.multi_report.specs.declared.report.FilesFault.TheVariants as fault
use Rattle.multi_report.specs.Order as several
use Rattle.multi_report.specs.Order.{FileCut, cut_in, cut_of_files, numbered_from, own_cut, own_cut_in, sooner}
use Rattle.multi_report.specs.Reports.{AllReadTheirParts, AreSame, IsFilesReport, ReadRose, WriteRose}
use Rattle.multi_report.specs.declared.source.Source.{Source}
use Rattle.multi_report.specs.Sources.{HasRoom, SourceView, shown_of}
use Rattle.trace_outside.specs.declared.outside.File as outside_file
use Rattle.trace_outside.specs.Seen.{FileSeen}
use Rattle.subpage.specs.Cut.{Cut, is_before}
use Rattle.subpage.specs.CutPlaces.{cut_at}
use Rattle.subpage.specs.declared.cut_place.CutPlace.{CutPlace}
use Rattle.trace_outside.specs.Open.{SomeFaulty}
use Rattle.trace_args.specs.Command.{ReportData}
use Rattle.run_endings.specs.declared.status.Status.TheVariants.{Malformed, NoMemory}
use Rattle.run_endings.specs.Ending.{Ends, IfNoMemory}
use Rattle.several_report.specs.Inputs.{input_share, NamedInput, WrongInput, inputs_in, names_in, shown_in}
use Rattle.run_endings.specs.Meaning.{Meaning, on_out}
use Rattle.several_report.specs.Meaning.{ended_in, files_meaning, files_report, inputs_mean}
use Rattle.several_report.specs.Naming.{IsInputOf, IsHeldNamed}
use Rattle.run_endings.specs.Outside.{FolderSeen, SinkSeen, beside}
use Rattle.run_endings.specs.Output.{Shows, Writes}
use Rattle.run_endings.specs.Ran.{MissesNothingElse}
use Rattle.several_report.specs.OpenInput.{file_in, source_seen}
use Rattle.several_report.specs.Opened.{AreInputs, AreOpened, reads_due}
use Rattle.several_report.specs.Reported.{FilesReported, source_of, status_of_files}
use Rattle.report_context.specs.declared.lines.ItemLines.{ItemLines}
use Rattle.report_context.proofs.LineLength.{line_short}
use Rattle.run_endings.proofs.Endings.{Around, ended_around, known_so, if_known}
use Rattle.run_endings.proofs.Requesting.{asked_few}
use Rattle.several_report.proofs.EmptyParts.{cut_same, report_same}
use Rattle.several_report.proofs.InputNames.{named_any}
use Rattle.run_endings.proofs.Printed.{printed_known}
use Rattle.run_endings.proofs.Reading.{any_answer}
use Rattle.several_report.proofs.Unread.{WereRead, name_at, unread_there}

-- THE CUT'S FILE IS ONE OF THEM

abbrev IsBelow : ℕ → Option FileCut → Type 0
IsBelow n found = IfSome found (λ cut. cut.file < n)

sooner_below : (n : ℕ) (found : Option FileCut) (cut : FileCut) → IsBelow n found → cut.file < n → IsBelow n (sooner found cut)
sooner_below n None cut below lt = lt
sooner_below n (Some a) cut below lt = by_test (is_before cut.cut.key cut.file a.cut.key a.file)
  where
    by_test : (b : Bool) → IsBelow n (if b then Some cut else Some a)
    by_test true = lt
    by_test false = below

cuts_below : (n from : ℕ) (files : List several.ShownFile) (found : Option FileCut) → from + length files ≤ n → IsBelow n found
    → IsBelow n (fold sooner found (filter_map own_cut_in (numbered_from from files)))
cuts_below n from [] found few below = below
cuts_below n from (file ∷ files) found few below = by_cut (own_cut file) (λ next fine. cuts_below n (from + 1) files next (omega (arith, few)) fine)
  where
    by_cut : (cut : Option Cut) → ((next : Option FileCut) → IsBelow n next → IsBelow n (fold sooner next (filter_map own_cut_in (numbered_from (from + 1) files))))
        → IsBelow n (fold sooner found (cons_option (option_map (cut_in from) cut) (filter_map own_cut_in (numbered_from (from + 1) files))))
    by_cut None rest = rest found below
    by_cut (Some cut) rest = rest (sooner found (cut_in from cut)) (sooner_below n found (cut_in from cut) below (omega (arith, few)))

cut_below : (files : List several.ShownFile) (found : Option FileCut) → cut_of_files files ≡ found → IsBelow (length files) found
unfolding cut_of_files
cut_below files found is = subst (IsBelow (length files)) is (cuts_below (length files) 0 files None (omega arith) tt)

-- LISTS

sums_below : (f g : SourceView → ℕ) (xs ys : List SourceView) → length ys ≡ length xs → ((i : ℕ) (d : SourceView) → i < length xs → f (get_or ys i d) ≤ g (get_or xs i d)) → sum_by f ys ≤ sum_by g xs
sums_below f g [] [] same each = omega arith
sums_below f g [] (y ∷ ys) same each = absurd (omega (arith, same))
sums_below f g (x ∷ xs) [] same each = absurd (omega (arith, same))
sums_below f g (x ∷ xs) (y ∷ ys) same each =
    omega (arith, each 0 x (omega arith), sums_below f g xs ys (omega (arith, same)) (λ i d lt. each (suc i) d (omega (arith, lt))), sum_by-cons f y ys, sum_by-cons g x xs)

sum_mapped : {X Y : Type 0} (f : Y → ℕ) (g : X → Y) (xs : List X) → sum_by f (map g xs) ≡ sum_by (λ x. f (g x)) xs
sum_mapped f g [] = refl
sum_mapped f g (x ∷ xs) = omega (arith, sum_mapped f g xs, sum_by-cons f (g x) (map g xs), sum_by-cons (λ z. f (g z)) x xs)

-- an element of a list, as its own default
own_faulty : (xs : List SourceView) (i : ℕ) → i < length xs → ((d : SourceView) → 0 < (get_or xs i d).faults) → (i < length (map file_in xs)) × ((d : FileSeen) → 0 < (get_or (map file_in xs) i d).faults)
own_faulty xs i lt each = (omega (arith, lt, length-map xs file_in), at (slice_get_cases xs i).1)
  where
    at : ((x : SourceView) × (i < length xs) × (slice_get xs i ≡ Some x) × (get_or xs i x ≡ x)) ⊎ ((length xs ≤ i) × (slice_get xs i ≡ None))
        → (d : FileSeen) → 0 < (get_or (map file_in xs) i d).faults
    at (inl found) d = subst (λ (f : FileSeen). 0 < f.faults) (sym (get_or-map file_in xs i found.0 d lt)) (each found.0)
    at (inr past) d = absurd (omega (arith, past.0, lt))

faulty_at : (xs : List SourceView) (i : ℕ) → i < length xs → ((d : SourceView) → 0 < (get_or xs i d).faults) → SomeFaulty (map file_in xs)
faulty_at xs i lt each =
    let own = own_faulty xs i lt each in
    (i, own.0, own.1)

-- THE END

-- a report that began did not end for want of memory
begun : (claim : Type 0) (answer : Result FilesEnd FilesFault) → IfNoMemory (status_of_files answer) claim
begun claim (Ok end.Done) = tt
begun claim (Ok (end.Malformed source cut)) = tt
begun claim (Err (fault.Read source)) = tt
begun claim (Err fault.Write) = tt

module _ (words : ReportData) (old new : List SourceView) (before now : FolderSeen) (out out_now : SinkSeen) (answer : Result FilesEnd FilesFault) (name : List ℕ) (opened : AreOpened words (names_in words) old before now) where
  abbrev all_shown : List several.ShownFile
  all_shown = map shown_of old

  abbrev unread : Type 0
  unread = Rose before.counts.reading now.counts.reading ⊎ SomeFaulty (map file_in new)

  writes : (e : Result FilesEnd FilesFault) → IsFilesReport all_shown out.written out_now.written e → Writes (files_report all_shown) (status_of_files e) out.written out_now.written
  writes (Ok end.Done) report = (sym (ap ended_in report.1), report.0)
  writes (Ok (end.Malformed source cut)) report = (sym (ap ended_in report.1.1), report.0)
  writes (Err (fault.Read source)) report = report
  writes (Err fault.Write) report = report

  shows : (e : Result FilesEnd FilesFault) → IfErr e (λ why. ReadRose why old new) → IfErr e (λ why. WriteRose why out.faults out_now.faults) → length new ≡ length old → Shows unread (status_of_files e) out out_now
  shows (Ok end.Done) read write same = tt
  shows (Ok (end.Malformed source cut)) read write same = tt
  shows (Err (fault.Read source)) read write same = inr (faulty_at new source (omega (arith, same, read.0)) (λ d. let rose = read.1 d in omega (arith, rose)))
  shows (Err fault.Write) read write same = write

  meant : (files : NamedFiles) → AreInputs words files (names_in words) old → files_report all_shown ≡ files_meaning words files
  meant files inputs = ap files_report inputs.shown ∙ report_same (map (shown_in words) inputs.inputs) ∙ sym (ap (inputs_mean words) inputs.read)

  written : (told : Option NamedFiles) → IfSome told (λ files. AreInputs words files (names_in words) old)
      → (All (λ source. IsSome source.told) old → IsFilesReport all_shown out.written out_now.written answer)
      → IfSome (option_map (files_meaning words) told) (λ m. (m.files ≡ []) × Writes m (status_of_files answer) out.written out_now.written)
  written None inputs report = tt
  written (Some files) inputs report =
      subst (λ (m : Meaning). (m.files ≡ []) × Writes m (status_of_files answer) out.written out_now.written) (meant files inputs)
      (refl, writes answer (report inputs.told))

  around : Around (beside before out) (beside now out) (beside now out_now) (beside now out_now)
  around = record {
    files_first = opened.files;
    files_then = refl;
    out_first = refl;
    out_then = refl;
    created_first = opened.counts.created;
    created_then = refl;
    unfinished_first = opened.counts.unfinished;
    unfinished_then = refl;
    writing_first = omega (arith, opened.counts.writing);
    writing_then = omega arith;
  }

  reads_within : (told : Option NamedFiles) → length new ≡ length old → AllReadTheirParts old new → IfSome told (λ files. AreInputs words files (names_in words) old)
      → IfSome told (λ files. IfOk (inputs_in files (names_in words)) (λ inputs. sum_by (λ file. file.reads) (map file_in new) ≤ sum_by (input_share words) inputs))
  reads_within None same each inputs = tt
  reads_within (Some files) same each inputs =
      subst (λ (r : Result (List NamedInput) WrongInput). IfOk r (λ inputs. sum_by (λ file. file.reads) (map file_in new) ≤ sum_by (input_share words) inputs)) (sym inputs.read)
      (omega (
        arith,
        sum_mapped (λ (f : FileSeen). f.reads) file_in new,
        inputs.reads,
        sums_below (λ s. s.reads) reads_due old new same (λ i d lt. let most = each i d lt in omega (arith, most)),
      ))

  module _ (named : Contains (names_in words) name) (place : IfSome (source_of answer) (λ source. IfSome (slice_get (names_in words) source) (λ n. n ≡ name))) where
    there : (source : ℕ) → source < length (names_in words) → IfSome (slice_get (names_in words) source) (λ n. n ≡ name) → slice_get (names_in words) source ≡ Some name
    there source lt is = at (slice_get_cases (names_in words) source).1
      where
        at : ((x : List ℕ) × (source < length (names_in words)) × (slice_get (names_in words) source ≡ Some x) × (get_or (names_in words) source x ≡ x)) ⊎ ((length (names_in words) ≤ source) × (slice_get (names_in words) source ≡ None))
            → slice_get (names_in words) source ≡ Some name
        at (inl found) = found.2 ∙ ap Some (subst (λ (o : Option (List ℕ)). IfSome o (λ n. n ≡ name)) found.2 is)
        at (inr past) = absurd (omega (arith, past.0, lt))

    cut_named : (files : NamedFiles) (source : ℕ) (place : CutPlace) → AreInputs words files (names_in words) old
        → IfSome (slice_get (names_in words) source) (λ n. n ≡ name)
        → (key : Option ℕ) × (cut_of_files all_shown ≡ Some (record { file = source; cut = cut_at key place }))
        → IsInputOf words (inputs_in files (names_in words)) (Malformed place) name
    cut_named files source place inputs is cut =
        let whole : FileCut = record { file = source; cut = cut_at cut.0 place } in
        let inside : source < length all_shown = cut_below all_shown (Some whole) cut.1 in
        let lt : source < length (names_in words) = omega (arith, inside, length-map old shown_of, opened.count) in
        subst (λ (r : Result (List NamedInput) WrongInput). IsInputOf words r (Malformed place) name) (sym inputs.read)
        (subst (λ (o : Option FileCut). IfSome o (λ c. slice_get (names_in words) c.file ≡ Some name)) (sym cut.1 ∙ ap cut_of_files inputs.shown ∙ cut_same (map (shown_in words) inputs.inputs)) (there source lt is))

    named_told : (told : Option NamedFiles) (e : Result FilesEnd FilesFault) → IfSome told (λ files. AreInputs words files (names_in words) old)
        → IfSome (source_of e) (λ source. IfSome (slice_get (names_in words) source) (λ n. n ≡ name))
        → (All (λ source. IsSome source.told) old → IsFilesReport all_shown out.written out_now.written e)
        → IfSome told (λ files. IsInputOf words (inputs_in files (names_in words)) (status_of_files e) name)
    named_told None e inputs is report = tt
    named_told (Some files) (Ok end.Done) inputs is report = tt
    named_told (Some files) (Ok (end.Malformed source cut)) inputs is report = cut_named files source cut inputs is (report inputs.told).1
    named_told (Some files) (Err (fault.Read source)) inputs is report = tt
    named_told (Some files) (Err fault.Write) inputs is report = tt

    unread_of : (e : Result FilesEnd FilesFault) → IfErr e (λ why. ReadRose why old new) → length new ≡ length old → IfSome (source_of e) (λ source. IfSome (slice_get (names_in words) source) (λ n. n ≡ name))
        → IsHeldNamed words (map file_in new) (status_of_files e) before now name
    unread_of (Ok end.Done) read same is = tt
    unread_of (Ok (end.Malformed source cut)) read same is = tt
    unread_of (Err fault.Write) read same is = tt
    unread_of (Err (fault.Read source)) read same is =
        let lt : source < length (names_in words) = omega (arith, read.0, opened.count) in
        let faulty = own_faulty new source (omega (arith, same, read.0)) (λ d. let rose = read.1 d in omega (arith, rose)) in
        record {
          input = record {
            place = source;
            there = name_at (names_in words) source name lt is;
            unread = unread_there before.files (names_in words) source before.counts.misses now.counts.misses lt
                (known_so (λ files. AreInputs words files (names_in words) old) (λ files. WereRead files (names_in words)) before.files (λ files inputs. (inputs.inputs, inputs.read)) opened.inputs) opened.misses;
          };
          own = inr faulty;
        }

    pub files_shown : (All (λ source. IsSome source.told) old → IsFilesReport all_shown out.written out_now.written answer)
        → IfErr answer (λ why. ReadRose why old new) → IfErr answer (λ why. WriteRose why out.faults out_now.faults) → AllReadTheirParts old new → AreSame old new
        → FilesReported words (map file_in new) (status_of_files answer) name (beside before out) (beside now out_now)
    files_shown report read write reads same = record {
      ended = ended_around (beside before out) (beside now out) (beside now out_now) (beside now out_now) around on_out unread unread (option_map (files_meaning words) before.files) (status_of_files answer) (λ why. why) (begun _ answer)
          (printed_known unread (option_map (files_meaning words) before.files) (status_of_files answer) out out_now
          (written before.files opened.inputs report) (shows answer read write same.count) now);
      misses = known_so (λ files. now.counts.misses ≡ before.counts.misses) (λ files. MissesNothingElse (files_meaning words files) before.counts now.counts) before.files
          (λ files kept other. kept) opened.misses;
      files = opened.files;
      counts = record {
        reading = opened.counts.reading;
        created = opened.counts.created;
        count = 0;
        few = omega (arith, length-map new file_in, same.count, opened.count);
        opened = omega (arith, length-map new file_in, same.count, opened.counts.opened);
        closed = omega (arith, opened.counts.closed);
      };
      faultless = begun _ answer;
      requested = asked_few (names_in words) before.requested now.requested opened.requested;
      bytes = any_answer (status_of_files answer) opened.counts.bytes;
      reads = any_answer (status_of_files answer) (reads_within before.files same.count reads opened.inputs);
      named = (named, named_told before.files answer opened.inputs place report);
      unread = unread_of answer read same.count place;
    }

  -- there was no memory for it
  pub files_unheld : Contains (names_in words) name → out_now ≡ out → new ≡ old → FilesReported words (map file_in new) NoMemory name (beside before out) (beside now out_now)
  files_unheld named same kept =
      subst (λ (o : SinkSeen). FilesReported words (map file_in new) NoMemory name (beside before out) (beside now o)) (sym same) record {
        ended = record {
          ends = if_known (λ m. Ends m NoMemory (beside before out) (beside now out)) (option_map (files_meaning words) before.files)
              (λ m. record { output = refl; files = opened.files; created = opened.counts.created });
          untouched = record { output = refl; files = opened.files; created = opened.counts.created };
          causes = tt;
          kept = record { folder = opened.kept; out = refl };
        };
        misses = known_so (λ files. now.counts.misses ≡ before.counts.misses) (λ files. MissesNothingElse (files_meaning words files) before.counts now.counts) before.files
            (λ files missed other. missed) opened.misses;
        files = opened.files;
        counts = record {
          reading = opened.counts.reading;
          created = opened.counts.created;
          count = 0;
          few = omega (arith, length-map new file_in, ap length kept, opened.count);
          opened = omega (arith, length-map new file_in, ap length kept, opened.counts.opened);
          closed = omega (arith, opened.counts.closed);
        };
        faultless = subst (λ (ss : List SourceView). All (λ (file : FileSeen). file.faults ≡ 0) (map file_in ss)) (sym kept)
            (All-map (λ (file : FileSeen). file.faults ≡ 0) file_in old opened.faultless);
        requested = asked_few (names_in words) before.requested now.requested opened.requested;
        bytes = tt;
        reads = tt;
        named = named_any words before.files name NoMemory named (λ inputs. tt);
        unread = tt;
      }

-- a buffer for the longest line has room for those of each
pub lines_room : {I : Type 0} (f : outside_file.Ghosts I) (room : ℕ) (sources : List (Source I ItemLines)) → 65537 ≤ room → All (HasRoom room) (map (source_seen f) sources)
lines_room f room sources wide =
    All-map (HasRoom room) (source_seen f) sources (λ k d lt cpu item. omega (arith, line_short (get_or sources k d).form.context cpu item, wide))
