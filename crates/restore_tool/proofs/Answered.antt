-- From what was opened, made and closed to what a restoring by names promises.
use Rattle.std.proofs.Common.{◌≡◌, ◌≢◌, ◌⊎◌, ℕ, suc, ◌+◌, ◌≤◌, List, [], ◌∷◌, length, map, Option, Some, None, Result, Ok, Err, inl, inr, refl, sym, ap, subst, ◌∙◌, arith}
use Rattle.std.specs.Option.{IfSome, IsSome, unwrap_or}
use Rattle.std.specs.Prelude.{is_none, if◌then◌else◌, option_and_then}
use Rattle.std.specs.FinMap.{get, insert}
use Rattle.std.proofs.lemmas.List.{length-map}
use Rattle.std.proofs.lemmas.List.Elements.{All-nil, All-cons}
use Rattle.trace_outside.specs.declared.counts.Counts.{Counts}
use Rattle.trace_outside.specs.Causes.{Rose, raised}
use Rattle.trace_outside.specs.Folders.{Closes, IsFileOf, misses_after}
use Rattle.trace_outside.specs.Names.{NamedFiles}
use Rattle.trace_outside.specs.Seen.{FileSeen}
use Rattle.trace_outside.specs.Open.{AreFilesOf, AreThere, ClosesMany, SomeFaulty}
use Rattle.dat_options.specs.declared.fault.OpenFault.{OpenFault}
use Rattle.dat_header.specs.declared.header.Header.{Header}
use Rattle.dat_header.specs.Partial.{ReadsPartial, partial_of}
use Rattle.new_files.specs.Stored.{IsUnmade}
use Rattle.restore_tool.specs.declared.copying.DataFault.{DataFault}
use Rattle.restore_tool.specs.declared.copying.DataFault.TheVariants as data_code
use Rattle.restore_tool.specs.declared.named.RestoreFault.{RestoreFault}
use Rattle.restore_tool.specs.declared.named.RestoreFault.TheVariants as code
use Rattle.restore_tool.specs.declared.named.Source.{Source}
use Rattle.restore_tool.specs.Answers.{Causes, ClosesAll, Created, KeepsFiles, LeavesOpen, fault_of_data}
use Rattle.restore_tool.specs.Copying.{AllTold, text_of}
use Rattle.restore_tool.specs.Meaning.{IsDone, NamesData, Task, missing, refused, made, task_of, texts_of, with_header, with_partial, with_texts}
use Rattle.restore_tool.specs.Restored.{for_processors, restored}
use Rattle.restore_tool.specs.Restoring.{CreatesOne, Leaves, LeavesUnfinished}

-- what the work on open files gives
abbrev pub result_of : Result Unit DataFault → Result Unit RestoreFault
result_of (Ok done) = Ok done
result_of (Err fault) = Err (fault_of_data fault)

-- THE BYTES OF THE OPEN FILES

pub record Texts (named : NamedFiles) (names : List (List ℕ)) (files : List FileSeen) : Type 0 where
  pub told : AllTold files
  pub texts : texts_of named names ≡ Some (map text_of files)

some_text : (found told : Option (List ℕ)) → IsSome found → told ≡ found → IsSome told × (found ≡ Some (unwrap_or told []))
some_text None told there same = absurd cc
some_text (Some text) told there same = (subst (λ (o : Option (List ℕ)). IsSome o) (sym same) there, ap (λ (o : Option (List ℕ)). Some (unwrap_or o [])) (sym same))

pub opened_texts : (named : NamedFiles) (names : List (List ℕ)) (files : List FileSeen) → length files ≡ length names → AreFilesOf (Some named) names files → Texts named names files
opened_texts named [] [] same are = record { told = All-nil (λ (file : FileSeen). IsSome file.bytes); texts = refl }
opened_texts named [] (file ∷ files) same are = absurd (omega (arith, same))
opened_texts named (name ∷ names) [] same are = absurd (omega (arith, same))
opened_texts named (name ∷ names) (file ∷ files) same are =
    let one = are 0 name file (omega arith) in
    let text = some_text (get named name) file.bytes one.0 one.1 in
    let more = opened_texts named names files (omega (arith, same)) (λ i d e lt. are (suc i) d e (omega (arith, lt))) in
    record {
      told = All-cons (λ (f : FileSeen). IsSome f.bytes) file files text.0 more.told;
      texts = ap (λ (o : Option (List ℕ)). option_and_then (λ t. option_and_then (λ ts. Some (t ∷ ts)) (texts_of named names)) o) text.1
          ∙ ap (λ (o : Option (List (List ℕ))). option_and_then (λ ts. Some (text_of file ∷ ts)) o) more.texts;
    }

-- texts are found only where all names are there
pub texts_there : (named : NamedFiles) (names : List (List ℕ)) (texts : List (List ℕ)) → texts_of named names ≡ Some texts → AreThere named names
texts_there named [] texts e = All-nil (λ (name : List ℕ). IsSome (get named name))
texts_there named (name ∷ names) texts e = by_first (get named name) refl (λ ts rest. texts_there named names ts rest) e
  where
    some_is : (text : List ℕ) → IsSome (Some text)
    some_is text = refl

    by_rest : (text : List ℕ) (found : Option (List (List ℕ))) → get named name ≡ Some text → ((ts : List (List ℕ)) → texts_of named names ≡ Some ts → AreThere named names) → texts_of named names ≡ found
        → option_and_then (λ ts. Some (text ∷ ts)) found ≡ Some texts → AreThere named (name ∷ names)
    by_rest text None first others rest e = absurd cc
    by_rest text (Some ts) first others rest e =
        All-cons (λ (n : List ℕ). IsSome (get named n)) name names (subst (λ (o : Option (List ℕ)). IsSome o) (sym first) (some_is text)) (others ts rest)

    by_first : (found : Option (List ℕ)) → get named name ≡ found → ((ts : List (List ℕ)) → texts_of named names ≡ Some ts → AreThere named names)
        → option_and_then (λ t. option_and_then (λ ts. Some (t ∷ ts)) (texts_of named names)) found ≡ Some texts → AreThere named (name ∷ names)
    by_first None first others e = absurd cc
    by_first (Some text) first others e = by_rest text (texts_of named names) first others refl e

pub not_missing : (named : NamedFiles) (names : List (List ℕ)) (header : Header) (output : List ℕ) → with_texts header output (texts_of named names) ≢ missing → AreThere named names
not_missing named names header output some = by_found (texts_of named names) refl some
  where
    by_found : (found : Option (List (List ℕ))) → texts_of named names ≡ found → with_texts header output found ≢ missing → AreThere named names
    by_found None e some = absurd (some refl)
    by_found (Some texts) e some = texts_there named names texts e

-- WHAT WAS MADE

done_by : (header : Header) (texts : List (List ℕ)) (output : List ℕ) (start mid now : Counts) (named : NamedFiles) (new : Option NamedFiles) (files : List FileSeen) (end : Result Unit DataFault)
    → map text_of files ≡ texts → AllTold files → mid.unfinished ≡ start.unfinished → mid.created ≡ start.created → Leaves header files output mid now (Some named) new end → CreatesOne mid.created now.created end
    → IsDone (made (record { name = output; content = restored header texts })) output start now named new (result_of end)
done_by header texts output start mid now named new files (Ok done) same told since few leaves creates =
    leaves told ∙ ap (λ (ts : List (List ℕ)). Some (insert named output (restored header ts))) same
done_by header texts output start mid now named new files (Err (data_code.Read file)) same told since few leaves creates = (leaves, omega (arith, creates, few))
done_by header texts output start mid now named new files (Err data_code.Write) same told since few leaves creates =
    (refl, subst (λ (n : ℕ). IsUnmade n now.unfinished output (Some named) new) since leaves)

pub data_done : (header made_header : Header) (cpus : ℕ) (output : List ℕ) (names : List (List ℕ)) (files : List FileSeen) (start mid now : Counts) (old opened new : Option NamedFiles) (end : Result Unit DataFault)
    → made_header ≡ for_processors header cpus → cpus ≡ length names → length files ≡ length names → AreFilesOf old names files → opened ≡ old → mid.unfinished ≡ start.unfinished → mid.created ≡ start.created
    → Leaves made_header files output mid now opened new end → CreatesOne mid.created now.created end
    → IfSome old (λ named. IsDone (with_texts header output (texts_of named names)) output start now named new (result_of end))
data_done header made_header cpus output names files start mid now None opened new end is count each are same since few leaves creates = tt
data_done header made_header cpus output names files start mid now (Some named) opened new end is count each are same since few leaves creates =
    let texts = opened_texts named names files each are in
    let all = map text_of files in
    let long : cpus ≡ length all = omega (arith, count, each, length-map files text_of) in
    let own : made_header ≡ for_processors header (length all) = is ∙ ap (for_processors header) long in
    let here = subst (λ (o : Option NamedFiles). Leaves made_header files output mid now o new end) same leaves in
    let by = done_by (for_processors header (length all)) all output start mid now named new files end refl texts.told since few (subst (λ (h : Header). Leaves h files output mid now (Some named) new end) own here) creates in
    subst (λ (o : Option (List (List ℕ))). IsDone (with_texts header output o) output start now named new (result_of end)) (sym texts.texts) by

-- a file could not be opened or read, and nothing was created
pub unread_done : (task : NamedFiles → Task) (output : List ℕ) (start now : Counts) (old new : Option NamedFiles) (source : Source) → new ≡ old → now.created ≡ start.created
    → IfSome old (λ named. IsDone (task named) output start now named new (Err (code.Read source)))
unread_done task output start now None new source same few = tt
unread_done task output start now (Some named) new source same few = (same, omega (arith, few))

-- there was no memory
pub unheld_done : (task : NamedFiles → Task) (output : List ℕ) (start now : Counts) (old new : Option NamedFiles) → new ≡ old → IfSome old (λ named. IsDone (task named) output start now named new (Err code.NoMemory))
unheld_done task output start now None new same = tt
unheld_done task output start now (Some named) new same = same

-- closing files changes nothing of it
done_closed : (task : Task) (output : List ℕ) (start mid now : Counts) (named : NamedFiles) (new last : Option NamedFiles) (result : Result Unit RestoreFault) → now.unfinished ≡ mid.unfinished → now.created ≡ mid.created → last ≡ new
    → IsDone task output start mid named new result → IsDone task output start now named last result
done_closed missing output start mid now named new last (Ok value) since few same done = absurd done
done_closed (refused fault) output start mid now named new last (Ok value) since few same done = absurd done
done_closed (made file) output start mid now named new last (Ok value) since few same done = same ∙ done
done_closed task output start mid now named new last (Err (code.Refused fault)) since few same done = (done.0, same ∙ done.1)
done_closed task output start mid now named new last (Err (code.Read source)) since few same done = (same ∙ done.0, omega (arith, few, done.1))
done_closed task output start mid now named new last (Err code.Write) since few same done =
    (done.0, subst (λ (n : ℕ). IsUnmade start.unfinished n output (Some named) last) (sym since) (subst (λ (m : Option NamedFiles). IsUnmade start.unfinished mid.unfinished output (Some named) m) (sym same) done.1))
done_closed task output start mid now named new last (Err code.NoMemory) since few same done = same ∙ done

pub all_closed : (task : NamedFiles → Task) (output : List ℕ) (start mid now : Counts) (old new last : Option NamedFiles) (result : Result Unit RestoreFault) → now.unfinished ≡ mid.unfinished → now.created ≡ mid.created → last ≡ new
    → IfSome old (λ named. IsDone (task named) output start mid named new result) → IfSome old (λ named. IsDone (task named) output start now named last result)
all_closed task output start mid now None new last result since few same done = tt
all_closed task output start mid now (Some named) new last result since few same done = done_closed (task named) output start mid now named new last result since few same done

-- nor does opening them
done_since : (task : Task) (output : List ℕ) (start mid now : Counts) (named : NamedFiles) (new : Option NamedFiles) (result : Result Unit RestoreFault) → mid.unfinished ≡ start.unfinished → mid.created ≡ start.created
    → IsDone task output mid now named new result → IsDone task output start now named new result
done_since missing output start mid now named new (Ok value) since few done = absurd done
done_since (refused fault) output start mid now named new (Ok value) since few done = absurd done
done_since (made file) output start mid now named new (Ok value) since few done = done
done_since task output start mid now named new (Err (code.Refused fault)) since few done = done
done_since task output start mid now named new (Err (code.Read source)) since few done = (done.0, omega (arith, few, done.1))
done_since task output start mid now named new (Err code.Write) since few done = (done.0, subst (λ (n : ℕ). IsUnmade n now.unfinished output (Some named) new) since done.1)
done_since task output start mid now named new (Err code.NoMemory) since few done = done

pub done_opened : (task : NamedFiles → Task) (output : List ℕ) (start mid now : Counts) (old opened new : Option NamedFiles) (result : Result Unit RestoreFault) → mid.unfinished ≡ start.unfinished → mid.created ≡ start.created → opened ≡ old
    → IfSome opened (λ named. IsDone (task named) output mid now named new result) → IfSome old (λ named. IsDone (task named) output start now named new result)
done_opened task output start mid now None opened new result since few same done = tt
done_opened task output start mid now (Some named) opened new result since few same done =
    done_since (task named) output start mid now named new result since few
    (subst (λ (o : Option NamedFiles). IfSome o (λ m. IsDone (task m) output mid now m new result)) same done)

-- CAUSES AND COUNTS

pub causes_more : (result : Result Unit RestoreFault) (P Q R S : Type 0) → (P → Q) → (R → S) → Causes result P R → Causes result Q S
causes_more (Ok done) P Q R S f h causes = tt
causes_more (Err (code.Refused fault)) P Q R S f h causes = causes
causes_more (Err (code.Read source)) P Q R S f h causes = f causes
causes_more (Err code.Write) P Q R S f h causes = h causes
causes_more (Err code.NoMemory) P Q R S f h causes = tt

-- a file whose reads failed is counted when it is closed
pub closed_rose : (files : List FileSeen) (start mid now : Counts) → start.reading ≤ mid.reading → ClosesMany files mid now → Rose start.reading mid.reading ⊎ SomeFaulty files → Rose start.reading now.reading
closed_rose files start mid now later closes (inl rose) = omega (arith, rose, closes.reading)
closed_rose files start mid now later closes (inr faulty) =
    let d : FileSeen = record { bytes = None; size = 0; faults = 0; reads = 0 } in
    let rose = closes.faulty faulty.0 d faulty.1 (faulty.2 d) in
    omega (arith, rose, later)

pub created_since : (result : Result Unit RestoreFault) (first before now : ℕ) → before ≡ first → Created result before now → Created result first now
created_since result first before now same created = subst (λ (n : ℕ). Created result n now) same created

pub created_then : (result : Result Unit RestoreFault) (before mid now : ℕ) → now ≡ mid → Created result before mid → Created result before now
created_then result before mid now same created = subst (λ (n : ℕ). Created result before n) (sym same) created

pub created_by : (end : Result Unit DataFault) (first before now : ℕ) → before ≡ first → CreatesOne before now end → Created (result_of end) first now
created_by end first before now same creates = created_since (result_of end) first before now same (by_end end creates)
  where
    by_end : (e : Result Unit DataFault) → CreatesOne before now e → Created (result_of e) before now
    by_end (Ok done) c = c
    by_end (Err (data_code.Read file)) c = omega (arith, c)
    by_end (Err data_code.Write) c = c

-- a name changed only where the new file was finished, or could not be
pub kept_by : (header : Header) (files : List FileSeen) (output : List ℕ) (mid now : Counts) (old opened new : Option NamedFiles) (end : Result Unit DataFault) → opened ≡ old
    → Leaves header files output mid now opened new end → KeepsFiles (result_of end) old new
kept_by header files output mid now old opened new end same leaves = by_end end leaves
  where
    by_end : (e : Result Unit DataFault) → Leaves header files output mid now opened new e → KeepsFiles (result_of e) old new
    by_end (Ok done) leaves = tt
    by_end (Err (data_code.Read file)) leaves = leaves ∙ same
    by_end (Err data_code.Write) leaves = tt

pub kept_around : (result : Result Unit RestoreFault) (old first new last : Option NamedFiles) → first ≡ old → last ≡ new → KeepsFiles result first new → KeepsFiles result old last
kept_around (Ok done) old first new last before after kept = tt
kept_around (Err (code.Refused fault)) old first new last before after kept = after ∙ kept ∙ before
kept_around (Err (code.Read source)) old first new last before after kept = after ∙ kept ∙ before
kept_around (Err code.Write) old first new last before after kept = tt
kept_around (Err code.NoMemory) old first new last before after kept = after ∙ kept ∙ before

pub unfinished_by : (end : Result Unit DataFault) (before now : ℕ) → LeavesUnfinished before now end → before ≤ now
unfinished_by (Ok done) before now leaves = omega (arith, leaves)
unfinished_by (Err (data_code.Read file)) before now leaves = omega (arith, leaves)
unfinished_by (Err data_code.Write) before now leaves = leaves.0

pub all_closed_counts : (count most : ℕ) (files : List FileSeen) (start mid now : Counts) → count ≡ length files → count ≤ most → LeavesOpen count start mid → ClosesMany files mid now → ClosesAll most start now
all_closed_counts count most files start mid now each few opens closes = record {
  reading = omega (arith, opens.reading, closes.reading);
  writing = omega (arith, opens.writing, closes.writing);
  unfinished = omega (arith, opens.unfinished, closes.unfinished);
  count = count;
  few = few;
  opened = closes.opened ∙ opens.opened;
  closed = closes.closed ∙ ap (λ (n : ℕ). raised mid.closed n) (sym each) ∙ ap (λ (n : ℕ). raised n count) opens.closed;
}

-- THE PARTIAL FILE

-- its header was read
pub header_done : (names : NamesData) (told old : Option NamedFiles) (bytes : Option (List ℕ)) (header : Header) (P : NamedFiles → Task → Type 0) → ReadsPartial bytes (Ok header)
    → IfSome old (λ named. P named (with_texts header names.output (texts_of named names.files))) → IfSome old (λ named. IfSome bytes (λ bs. P named (with_header named names (partial_of bs))))
header_done names told None bytes header P reads done = tt
header_done names told (Some named) None header P reads done = tt
header_done names told (Some named) (Some bs) header P reads done = subst (λ (r : Result Header OpenFault). P named (with_header named names r)) (sym reads) done

-- the file of the name that was opened
pub partial_done : (names : NamesData) (old : Option NamedFiles) (bytes : Option (List ℕ)) (P : NamedFiles → Task → Type 0) → IsFileOf old names.partial bytes
    → IfSome old (λ named. IfSome bytes (λ bs. P named (with_header named names (partial_of bs)))) → IfSome old (λ named. P named (task_of named names))
partial_done names None bytes P is done = tt
partial_done names (Some named) bytes P is done = by_bytes bytes (get named names.partial) refl is.0 is.1 done
  where
    by_bytes : (told found : Option (List ℕ)) → get named names.partial ≡ found → IsSome found → told ≡ found → IfSome told (λ bs. P named (with_header named names (partial_of bs))) → P named (task_of named names)
    by_bytes told None e there same done = absurd cc
    by_bytes told (Some bs) e there same done =
        subst (λ (o : Option (List ℕ)). P named (with_partial named names o)) (sym e) (subst (λ (o : Option (List ℕ)). IfSome o (λ b. P named (with_header named names (partial_of b)))) same done)

-- a name that could not be opened was missed only where it is not there
pub unopened_misses : (names : NamesData) (old : Option NamedFiles) (before now : ℕ) → IfSome old (λ named. now ≡ misses_after named names.partial before)
    → IfSome old (λ named. task_of named names ≢ missing → now ≡ before)
unopened_misses names None before now misses = tt
unopened_misses names (Some named) before now misses = λ some. misses ∙ by_found (get named names.partial) some
  where
    by_found : (found : Option (List ℕ)) → with_partial named names found ≢ missing → (if is_none found then raised before 1 else before) ≡ before
    by_found None some = absurd (some refl)
    by_found (Some bytes) some = refl

-- a file that was opened was not missed
pub opened_misses : (name : List ℕ) (old : Option NamedFiles) (bytes : Option (List ℕ)) (before now : ℕ) → IsFileOf old name bytes → IfSome old (λ named. now ≡ misses_after named name before) → IfSome old (λ named. now ≡ before)
opened_misses name None bytes before now is misses = tt
opened_misses name (Some named) bytes before now is misses = misses ∙ by_found (get named name) is.0
  where
    by_found : (found : Option (List ℕ)) → IsSome found → (if is_none found then raised before 1 else before) ≡ before
    by_found None there = absurd cc
    by_found (Some text) there = refl

pub misses_then : (task : NamedFiles → Task) (old : Option NamedFiles) (before opened worked now : ℕ) → IfSome old (λ named. opened ≡ before) → now ≡ worked
    → IfSome old (λ named. task named ≢ missing → worked ≡ opened) → IfSome old (λ named. task named ≢ missing → now ≡ before)
misses_then task None before opened worked now first last mid = tt
misses_then task (Some named) before opened worked now first last mid = λ some. last ∙ mid some ∙ first

pub one_closed_counts : (faults reads most : ℕ) (start opened worked now : Counts) → start.reading ≤ opened.reading → start.writing ≤ opened.writing → opened.unfinished ≡ start.unfinished
    → opened.opened ≡ raised start.opened 1 → opened.closed ≡ start.closed → ClosesAll most opened worked → Closes faults reads worked now → ClosesAll (most + 1) start now
one_closed_counts faults reads most start opened worked now reading writing unfinished one closed all closes = record {
  reading = omega (arith, reading, all.reading, closes.reading);
  writing = omega (arith, writing, all.writing, closes.writing);
  unfinished = omega (arith, unfinished, all.unfinished, closes.unfinished);
  count = all.count + 1;
  few = omega (arith, all.few);
  opened = omega (arith, one, all.opened, closes.opened);
  closed = omega (arith, closed, all.closed, closes.closed);
}
