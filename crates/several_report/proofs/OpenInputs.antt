-- Inputs that are opened one by one.
use Rattle.std.proofs.Common.{inl, ◌≡◌, ◌≢◌, ◌<◌, ◌+◌, ℕ, List, [], ◌∷◌, ◌++◌, length, map, take, drop, suc, Option, Some, None, Result, Err, IfSome, refl, sym, ap, ◌∙◌, subst, arith}
use Rattle.std.specs.Prelude.{IsSome, is_none, sum_by, Contains, if◌then◌else◌}
use Rattle.std.specs.FinMap.{get}
use Rattle.std.specs.Option.{option_map}
use Rattle.std.proofs.lemmas.List.{append-nil, append_assoc, length-append, length-map, map-append, take-append-drop, take_more}
use Rattle.std.proofs.lemmas.List.Elements.{All-map, All-nil, All-push}
use Rattle.std.proofs.lemmas.List.Sums.{sum_by-append, sum_by-cons}
use Rattle.std.proofs.Math.Seq.{drop-cons, get_or-append_seam}
use Rattle.trace_outside.specs.Causes.{raised}
use Rattle.trace_outside.specs.Folders.{misses_after}
use Rattle.trace_outside.specs.Memory.{KeepsFaults}
use Rattle.trace_outside.specs.Names.{NamedFiles}
use Rattle.trace_outside.proofs.Gains.{gained_nothing}
use Rattle.trace_outside.specs.Seen.{FileSeen}
use Rattle.trace_outside.specs.Open.{ClosesMany}
use Rattle.dat_options.specs.declared.fault.OpenFault.{OpenFault}
use Rattle.multi_report.specs.Sources.{IsFreshSource, SourceView, shown_of}
use Rattle.new_files.specs.Requested.{AskedFirst}
use Rattle.trace_outside.proofs.OpenFiles.{opens_more, there_is}
use Rattle.trace_outside.specs.declared.counts.Counts.{Counts}
use Rattle.trace_args.specs.Command.{ReportData}
use Rattle.run_endings.specs.declared.status.Status.{Status}
use Rattle.run_endings.specs.declared.status.Status.TheVariants.{Done, Usage, Refused, Malformed, ReadFault, WriteFault, NoMemory}
use Rattle.run_endings.specs.Ending.{Ends, Finished, Untouched}
use Rattle.several_report.specs.Inputs.{input_share, NamedInput, WrongInput, shown_in, input_found, input_named, inputs_in, names_in}
use Rattle.several_report.specs.Meaning.{files_meaning, inputs_mean}
use Rattle.run_endings.specs.Meaning.{only}
use Rattle.several_report.specs.Naming.{IsInputOf}
use Rattle.run_endings.specs.Outside.{FolderSeen, SinkSeen, beside}
use Rattle.run_endings.specs.Ran.{MissesNothingElse}
use Rattle.several_report.specs.OpenInput.{file_in}
use Rattle.several_report.specs.Opened.{AreInputs, AreOpened, IsFaultless, IsInput, IsOpened, IsUnopened, LeavesHeld, reads_due, without_empty}
use Rattle.several_report.specs.Reported.{FilesReported, StandsAt}
use Rattle.run_endings.proofs.Endings.{if_known, stored_none, known_so}
use Rattle.run_endings.proofs.Requesting.{asked_front, asked_more}
use Rattle.run_words.proofs.Readings.{readings_fault, readings_more}
use Rattle.several_report.proofs.InputNames.{named_any}
use Rattle.several_report.proofs.Unread.{WereRead, found_there, name_at, next_named, unread_next}

sum_push : {X : Type 0} (f : X → ℕ) (xs : List X) (x : X) → sum_by f (xs ++ x ∷ []) ≡ sum_by f xs + f x
sum_push f xs x = omega (arith, sum_by-append f xs (x ∷ []), sum_one f x)
  where
    sum_one : {X : Type 0} (f : X → ℕ) (x : X) → sum_by f (x ∷ []) ≡ f x
    sum_one f x = omega (arith, sum_by-cons f x [])

module _ (words : ReportData) (names : List (List ℕ)) (name : List ℕ) (sources : List SourceView) where
  inputs_are : (files : NamedFiles) (source : SourceView) → AreInputs words files names sources → IsInput words files name source → AreInputs words files (names ++ name ∷ []) (sources ++ source ∷ [])
  inputs_are files source all one = record {
    inputs = all.inputs ++ one.input ∷ [];
    read = readings_more (input_named files) names name all.inputs one.input all.read one.read;
    told = All-push (λ (s : SourceView). IsSome s.told) sources source all.told one.told;
    shown =
        map-append shown_of sources (source ∷ [])
        ∙ ap (λ gs. gs ++ shown_of source ∷ []) all.shown
        ∙ ap (λ g. map without_empty (map (shown_in words) all.inputs) ++ g ∷ []) one.shown
        ∙ sym (map-append without_empty (map (shown_in words) all.inputs) (shown_in words one.input ∷ []))
        ∙ ap (map without_empty) (sym (map-append (shown_in words) all.inputs (one.input ∷ [])));
    reads = omega (arith, sum_push reads_due sources source, sum_push (input_share words) all.inputs one.input, all.reads, one.reads);
  }

  inputs_told : (told same : Option NamedFiles) (source : SourceView) → same ≡ told → IfSome told (λ files. AreInputs words files names sources) → IfSome same (λ files. IsInput words files name source)
      → IfSome told (λ files. AreInputs words files (names ++ name ∷ []) (sources ++ source ∷ []))
  inputs_told None same source is all one = tt
  inputs_told (Some files) same source is all one =
      inputs_are files source all (subst (λ (t : Option NamedFiles). IfSome t (λ fs. IsInput words fs name source)) is one)

  misses_told : (told same : Option NamedFiles) (source : SourceView) (before mid now : ℕ) → same ≡ told → IfSome told (λ files. mid ≡ before) → IfSome same (λ files. IsInput words files name source)
      → IfSome same (λ files. now ≡ misses_after files name mid) → IfSome told (λ files. now ≡ before)
  misses_told None same source before mid now is so_far one asked = tt
  misses_told (Some files) same source before mid now is so_far one asked =
      let input = subst (λ (t : Option NamedFiles). IfSome t (λ fs. IsInput words fs name source)) is one in
      let last : now ≡ misses_after files name mid = subst (λ (t : Option NamedFiles). IfSome t (λ fs. now ≡ misses_after fs name mid)) is asked in
      last ∙ there_is (get files name) mid (found_there name (get files name) input.input input.read) ∙ so_far

  -- one more input is open
  pub opened_more : (source : SourceView) (before mid now : FolderSeen) → AreOpened words names sources before mid → IsOpened words name source mid now
      → AreOpened words (names ++ name ∷ []) (sources ++ source ∷ []) before now
  opened_more source before mid now all one = record {
    fresh = All-push IsFreshSource sources source all.fresh one.fresh;
    count = omega (arith, length-append sources (source ∷ []), length-append names (name ∷ []), all.count);
    files = one.asked.files ∙ all.files;
    counts = opens_more before.counts mid.counts now.counts (length sources) 1 (length (sources ++ source ∷ [])) all.counts one.counts (length-append sources (source ∷ []));
    faultless = All-push IsFaultless sources source all.faultless one.faultless;
    kept = record { reading = one.kept.reading ∙ all.kept.reading; writing = one.kept.writing ∙ all.kept.writing };
    requested = asked_more names before.requested mid.requested now.requested name all.requested one.asked.requested;
    inputs = inputs_told before.files mid.files source all.files all.inputs one.input;
    misses = misses_told before.files mid.files source before.counts.misses mid.counts.misses now.counts.misses all.files all.misses one.input one.asked.misses;
  }

  module _ (rest : List (List ℕ)) (before mid now : FolderSeen) (out : SinkSeen) (are : names_in words ≡ names ++ name ∷ rest) (all : AreOpened words names sources before mid) where
    abbrev all_names : List (List ℕ)
    all_names = names ++ name ∷ rest

    is_one : Contains (names_in words) name
    is_one = subst (λ (ns : List (List ℕ)). Contains ns name) (sym are)
        (length names, omega (arith, length-append names (name ∷ rest)), get_or-append_seam names name rest name)

    -- the meaning where this name is wrong
    wrong_meaning : (files : NamedFiles) (wrong : WrongInput) → AreInputs words files names sources → input_named files name ≡ Err wrong → inputs_in files (names_in words) ≡ Err wrong
    wrong_meaning files wrong inputs is = ap (inputs_in files) are ∙ readings_fault (input_named files) names name inputs.inputs rest wrong inputs.read is

    missed_here : (files : NamedFiles) (found : Option (List ℕ)) → get files name ≡ found → AreInputs words files names sources → mid.counts.misses ≡ before.counts.misses
        → now.counts.misses ≡ misses_after files name mid.counts.misses → (files_meaning words files).status ≢ ReadFault → now.counts.misses ≡ before.counts.misses
    missed_here files None same inputs so_far asked other =
        absurd (other (ap (λ (r : Result (List NamedInput) WrongInput). (inputs_mean words r).status)
        (wrong_meaning files (record { name = name; status = ReadFault }) inputs (ap (input_found name) same))))
    missed_here files (Some bytes) same inputs so_far asked other =
        asked ∙ ap (λ (f : Option (List ℕ)). if is_none f then raised mid.counts.misses 1 else mid.counts.misses) same ∙ so_far

    missed : (told same : Option NamedFiles) → same ≡ told → IfSome told (λ files. AreInputs words files names sources) → IfSome told (λ files. mid.counts.misses ≡ before.counts.misses)
        → IfSome same (λ files. now.counts.misses ≡ misses_after files name mid.counts.misses) → IfSome told (λ files. MissesNothingElse (files_meaning words files) before.counts now.counts)
    missed None same is inputs so_far asked = tt
    missed (Some files) same is inputs so_far asked =
        missed_here files (get files name) refl inputs so_far
        (subst (λ (t : Option NamedFiles). IfSome t (λ fs. now.counts.misses ≡ misses_after fs name mid.counts.misses)) is asked)

    module _ (status : Status) (one : IsUnopened name status mid now) where
      held_counts : LeavesHeld (length (map file_in sources)) (length words.more + 1) before.counts now.counts
      held_counts =
          let long : suc (length words.more) ≡ length names + suc (length rest) = ap length are ∙ length-append names (name ∷ rest) in
          record {
            reading = omega (arith, all.counts.reading, one.counts.reading);
            created = one.counts.created ∙ all.counts.created;
            count = one.counts.count;
            few = omega (arith, length-map sources file_in, all.count, one.counts.few, long);
            opened = omega (arith, length-map sources file_in, all.counts.opened, one.counts.opened);
            closed = omega (arith, all.counts.closed, one.counts.closed);
          }

      kept : now.files ≡ before.files
      kept = one.asked.files ∙ all.files

      -- the names so far and this one, and none after it
      asked : AskedFirst (names_in words) before.requested now.requested
      asked =
          let so_far = asked_more names before.requested mid.requested now.requested name all.requested one.asked.requested in
          subst (λ (ns : List (List ℕ)). AskedFirst ns before.requested now.requested) (append_assoc names (name ∷ []) rest ∙ sym are)
          (asked_front (names ++ name ∷ []) rest before.requested now.requested so_far)

      created_kept : now.counts.created ≡ before.counts.created
      created_kept = one.counts.created ∙ all.counts.created

      nothing_done : Untouched (beside before out) (beside now out)
      nothing_done = record { output = refl; files = kept; created = created_kept }

      reads_kept : IfSome before.files (λ files. MissesNothingElse (files_meaning words files) before.counts now.counts)
      reads_kept = missed before.files mid.files all.files all.inputs all.misses one.asked.misses

    refused_finished : (fault : OpenFault) → IsUnopened name (Refused fault) mid now → Finished (only (Refused fault)) (Refused fault) (beside before out) (beside now out)
    refused_finished fault one = record {
      answer = refl;
      output = gained_nothing out.written;
      files = stored_none before.files now.files (kept (Refused fault) one);
      created = omega (arith, created_kept (Refused fault) one);
    }

    refused_meaning : (fault : OpenFault) (told same : Option NamedFiles) → same ≡ told → IfSome told (λ files. AreInputs words files names sources)
        → IfSome same (λ files. input_named files name ≡ Err (record { name = name; status = Refused fault }))
        → IfSome told (λ files. inputs_in files (names_in words) ≡ Err (record { name = name; status = Refused fault }))
    refused_meaning fault None same is inputs wrong = tt
    refused_meaning fault (Some files) same is inputs wrong =
        wrong_meaning files (record { name = name; status = Refused fault }) inputs
        (subst (λ (t : Option NamedFiles). IfSome t (λ fs. input_named fs name ≡ Err (record { name = name; status = Refused fault }))) is wrong)

    faults_kept : IsUnopened name NoMemory mid now → KeepsFaults before.counts now.counts
    faults_kept one = record { reading = one.reason.reading ∙ all.kept.reading; writing = one.reason.writing ∙ all.kept.writing }

    -- an input could not be shown
    pub unopened_shown : (status : Status) → IsUnopened name status mid now → FilesReported words (map file_in sources) status name (beside before out) (beside now out)
    unopened_shown (Refused fault) one =
        let meaning = refused_meaning fault before.files mid.files all.files all.inputs one.reason.1 in
        record {
          ended = record {
            ends = by_told before.files meaning;
            untouched = nothing_done (Refused fault) one;
            causes = one.reason.0;
            kept = tt;
          };
          misses = reads_kept (Refused fault) one;
          files = kept (Refused fault) one;
          counts = held_counts (Refused fault) one;
          faultless = tt;
          requested = asked (Refused fault) one;
          bytes = tt;
          reads = tt;
          named = (is_one, named_told before.files meaning);
          unread = tt;
        }
      where
        by_told : (told : Option NamedFiles) → IfSome told (λ files. inputs_in files (names_in words) ≡ Err (record { name = name; status = Refused fault }))
            → IfSome (option_map (files_meaning words) told) (λ m. Ends m (Refused fault) (beside before out) (beside now out))
        by_told None means = tt
        by_told (Some files) means =
            subst (λ (r : Result (List NamedInput) WrongInput). Ends (inputs_mean words r) (Refused fault) (beside before out) (beside now out)) (sym means)
            (refused_finished fault one)

        named_told : (told : Option NamedFiles) → IfSome told (λ files. inputs_in files (names_in words) ≡ Err (record { name = name; status = Refused fault }))
            → IfSome told (λ files. IsInputOf words (inputs_in files (names_in words)) (Refused fault) name)
        named_told None means = tt
        named_told (Some files) means =
            subst (λ (r : Result (List NamedInput) WrongInput). IsInputOf words r (Refused fault) name) (sym means) refl
    unopened_shown ReadFault one = record {
      ended = record {
        ends = if_known (λ m. Ends m ReadFault (beside before out) (beside now out)) (option_map (files_meaning words) before.files) (λ m. record {
          output = (0, gained_nothing out.written);
          files = (0, stored_none before.files now.files (kept ReadFault one));
          created = omega (arith, created_kept ReadFault one);
        });
        untouched = tt;
        causes = inl (omega (arith, all.counts.reading, one.reason));
        kept = tt;
      };
      misses = reads_kept ReadFault one;
      files = kept ReadFault one;
      counts = held_counts ReadFault one;
      faultless = tt;
      requested = asked ReadFault one;
      bytes = tt;
      reads = tt;
      named = named_any words before.files name ReadFault is_one (λ inputs. tt);
      unread = record {
        input = record {
          place = length names;
          there = next_named (names_in words) names name rest are;
          unread = unread_next (names_in words) names name rest are before.files before.counts.misses mid.counts.misses now.counts.misses
              (known_so (λ files. AreInputs words files names sources) (λ files. WereRead files names) before.files (λ files inputs. (inputs.inputs, inputs.read)) all.inputs) all.misses
              (subst (λ (t : Option NamedFiles). IfSome t (λ fs. now.counts.misses ≡ misses_after fs name mid.counts.misses)) all.files one.asked.misses);
        };
        own = inl (omega (arith, length-map sources file_in, all.count), omega (arith, all.counts.reading, one.reason));
      };
    }
    unopened_shown NoMemory one = record {
      ended = record {
        ends = if_known (λ m. Ends m NoMemory (beside before out) (beside now out)) (option_map (files_meaning words) before.files) (λ m. nothing_done NoMemory one);
        untouched = nothing_done NoMemory one;
        causes = tt;
        kept = record { folder = faults_kept one; out = refl };
      };
      misses = reads_kept NoMemory one;
      files = kept NoMemory one;
      counts = held_counts NoMemory one;
      faultless = All-map (λ (file : FileSeen). file.faults ≡ 0) file_in sources all.faultless;
      requested = asked NoMemory one;
      bytes = tt;
      reads = tt;
      named = named_any words before.files name NoMemory is_one (λ inputs. tt);
      unread = tt;
    }
    unopened_shown Done one = absurd one.reason
    unopened_shown Usage one = absurd one.reason
    unopened_shown (Malformed cut) one = absurd one.reason
    unopened_shown WriteFault one = absurd one.reason

-- the same of sources that are seen
pub opened_next : {S : Type 0} (f : S → SourceView) (words : ReportData) (names : List (List ℕ)) (name : List ℕ) (old all : List S) (source : S) (before mid now : FolderSeen)
    → AreOpened words names (map f old) before mid → all ≡ old ++ source ∷ [] → IsOpened words name (f source) mid now → AreOpened words (names ++ name ∷ []) (map f all) before now
opened_next f words names name old all source before mid now opened pushed one =
    subst (λ (ss : List SourceView). AreOpened words (names ++ name ∷ []) ss before now) (sym (ap (map f) pushed ∙ map-append f old (source ∷ [])))
    (opened_more words names name (map f old) (f source) before mid now opened one)

-- none is open
pub none_opened : (words : ReportData) (folder : FolderSeen) → AreOpened words [] [] folder folder
none_opened words folder = record {
  fresh = All-nil IsFreshSource;
  count = refl;
  files = refl;
  counts = record {
    reading = omega arith;
    writing = omega arith;
    misses = omega arith;
    opened = omega arith;
    closed = refl;
    created = refl;
    unfinished = refl;
    bytes = refl;
  };
  faultless = All-nil IsFaultless;
  kept = record { reading = refl; writing = refl };
  requested = sym (append-nil folder.requested);
  inputs = if_known (λ files. AreInputs words files [] []) folder.files (λ files. record { inputs = []; read = refl; told = All-nil (λ (s : SourceView). IsSome s.told); shown = refl; reads = omega arith });
  misses = if_known (λ files. folder.counts.misses ≡ folder.counts.misses) folder.files (λ files. refl);
}

-- all are closed
pub inputs_closed : {S : Type 0} (f : S → SourceView) (all left tail : List S) (before now : Counts) → all ≡ left ++ tail → length left ≡ 0 → ClosesMany (map file_in (map f tail)) before now
    → ClosesMany (map file_in (map f all)) before now
inputs_closed {S} f all [] tail before now e none closes = subst (λ (xs : List S). ClosesMany (map file_in (map f xs)) before now) (sym e) closes
inputs_closed {S} f all (x ∷ left) tail before now e none closes = absurd (omega (arith, none))

-- the names in front of one, that one, and those after it
pub names_split : (names : List (List ℕ)) (i : ℕ) (name : List ℕ) → i < length names → StandsAt names i name → names ≡ take i names ++ name ∷ drop (i + 1) names
names_split names i name lt stands =
    let next : suc i ≡ i + 1 = omega arith in
    sym (take-append-drop i names)
    ∙ ap (λ (rest : List (List ℕ)). take i names ++ rest)
    (drop-cons names i name lt ∙ ap (λ (n : List ℕ). n ∷ drop (suc i) names) (name_at names i name lt stands name) ∙ ap (λ (k : ℕ). name ∷ drop k names) next)

pub names_more : (names : List (List ℕ)) (i : ℕ) (name : List ℕ) → i < length names → StandsAt names i name → take i names ++ name ∷ [] ≡ take (i + 1) names
names_more names i name lt stands =
    ap (λ (n : List ℕ). take i names ++ n ∷ []) (sym (name_at names i name lt stands name)) ∙ sym (take_more names i name lt)
