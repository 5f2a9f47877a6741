-- Which file could not be opened or read.
use Rattle.std.proofs.Common.{◌≡◌, ◌⊎◌, ℕ, zero, suc, ◌<◌, ◌≤◌, List, [], length, get_or, map, Option, Some, None, Result, Ok, Err, OnErr, inl, inr, refl, sym, ap, subst, ◌∙◌, arith}
use Rattle.std.specs.Option.{IfSome, IsSome}
use Rattle.std.specs.FinMap.{get}
use Rattle.std.proofs.lemmas.List.{get_or-map}
use Rattle.std.proofs.lemmas.List.Elements.{All-get_or}
use Rattle.trace_outside.specs.declared.counts.Counts.{Counts}
use Rattle.trace_outside.specs.Causes.{Rose}
use Rattle.trace_outside.specs.Folders.{IsFileOf, misses_after}
use Rattle.trace_outside.specs.Names.{NamedFiles}
use Rattle.trace_outside.specs.Seen.{FileSeen}
use Rattle.trace_outside.specs.Open.{AreFilesOf, AreThere, AreThereBefore, IsUnread, SomeFaulty}
use Rattle.dat_options.specs.declared.fault.OpenFault.{OpenFault}
use Rattle.dat_options.specs.declared.fault.OpenFault.TheVariants.{Read, Memory}
use Rattle.restore_tool.specs.declared.copying.DataFault.{DataFault}
use Rattle.restore_tool.specs.declared.copying.DataFault.TheVariants as data_code
use Rattle.restore_tool.specs.declared.named.RestoreFault.{RestoreFault}
use Rattle.restore_tool.specs.declared.named.RestoreFault.TheVariants as code
use Rattle.restore_tool.specs.declared.named.Source.{Source}
use Rattle.restore_tool.specs.declared.named.Source.TheVariants as source_code
use Rattle.restore_tool.specs.Answers.{Causes, fault_of_open}
use Rattle.restore_tool.specs.Copying.{IsCaused}
use Rattle.restore_tool.specs.Failing.{IfRead, IsFaulty, IsUnreadBehind, inputs_of, place_of}
use Rattle.restore_tool.specs.Meaning.{NamesData}
use Rattle.trace_outside.proofs.OpenFiles.{there_is}
use Rattle.restore_tool.proofs.Answered.{result_of}

-- NAMES THAT WERE MISSED

pub on_err : {T E : Type 0} (result : Result T E) (P : Type 0) → P → OnErr result P
on_err (Ok value) P p = tt
on_err (Err error) P p = p

-- nothing was missed so far, nor is it by a file that was opened
pub unmissed_more : (told same : Option NamedFiles) (name : List ℕ) (bytes : Option (List ℕ)) (before mid now : ℕ) → same ≡ told → IsFileOf same name bytes
    → IfSome same (λ named. now ≡ misses_after named name mid) → IfSome told (λ named. mid ≡ before) → IfSome told (λ named. now ≡ before)
unmissed_more None same name bytes before mid now is file one so_far = tt
unmissed_more (Some named) same name bytes before mid now is file one so_far =
    let here : IsFileOf (Some named) name bytes = subst (λ (o : Option NamedFiles). IsFileOf o name bytes) is file in
    let last : now ≡ misses_after named name mid = subst (λ (o : Option NamedFiles). IfSome o (λ m. now ≡ misses_after m name mid)) is one in
    last ∙ there_is (get named name) mid here.0 ∙ so_far

-- a file that could not be opened was missed where it is not there
pub missed_at : {N : Type 0} (name_of : N → List ℕ) (told same : Option NamedFiles) (names : List N) (i count : ℕ) (e : N) (before mid now : ℕ) → i < length names → same ≡ told → count ≡ i
    → IfSome same (λ named. now ≡ misses_after named (name_of (get_or names i e)) mid) → IfSome told (λ named. mid ≡ before)
    → IfSome told (λ named. (d : List ℕ) → now ≡ misses_after named (get_or (map name_of names) count d) before)
missed_at name_of None same names i count e before mid now lt is counted one so_far = tt
missed_at name_of (Some named) same names i count e before mid now lt is counted one so_far = λ d.
    let last : now ≡ misses_after named (name_of (get_or names i e)) mid = subst (λ (o : Option NamedFiles). IfSome o (λ m. now ≡ misses_after m (name_of (get_or names i e)) mid)) is one in
    let name : name_of (get_or names i e) ≡ get_or (map name_of names) count d = sym (get_or-map name_of names i e d lt) ∙ ap (λ (n : ℕ). get_or (map name_of names) n d) (sym counted) in
    last ∙ ap (λ (n : List ℕ). misses_after named n mid) name ∙ ap (λ (m : ℕ). misses_after named (get_or (map name_of names) count d) m) so_far

-- so where all are there nothing was missed
pub missed_there : (told : Option NamedFiles) (names : List (List ℕ)) (i before now : ℕ) → i < length names
    → IfSome told (λ named. (d : List ℕ) → now ≡ misses_after named (get_or names i d) before) → IfSome told (λ named. AreThere named names → now ≡ before)
missed_there None names i before now lt missed = tt
missed_there (Some named) names i before now lt missed = λ there.
    missed [] ∙ there_is (get named (get_or names i [])) before (All-get_or (λ (n : List ℕ). IsSome (get named n)) names i [] lt there)

pub any_missed : (P : NamedFiles → Type 0) (told : Option NamedFiles) (before now : ℕ) → IfSome told (λ named. now ≡ before) → IfSome told (λ named. P named → now ≡ before)
any_missed P None before now same = tt
any_missed P (Some named) before now same = λ p. same

pub misses_since : (told : Option NamedFiles) (before mid now : ℕ) → now ≡ mid → IfSome told (λ named. mid ≡ before) → IfSome told (λ named. now ≡ before)
misses_since None before mid now last same = tt
misses_since (Some named) before mid now last same = last ∙ same

-- THE DATA FILES

nothing_seen : FileSeen
nothing_seen = record { bytes = None; size = 0; faults = 0; reads = 0 }

files_before : (told : Option NamedFiles) (names : List (List ℕ)) (files : List FileSeen) (place : ℕ) → place ≤ length files → AreFilesOf told names files → IfSome told (λ named. AreThereBefore named names place)
files_before None names files place le are = tt
files_before (Some named) names files place le are = λ i d lt. (are i d nothing_seen (omega (arith, lt, le))).0

-- one could not be opened
pub unopened_unread : (told : Option NamedFiles) (names : List (List ℕ)) (files : List FileSeen) (count before now file : ℕ) → count ≡ length files → file ≡ count → count < length names → AreFilesOf told names files
    → IfSome told (λ named. (d : List ℕ) → now ≡ misses_after named (get_or names count d) before) → IsUnread told names before now file
unopened_unread told names files count before now file each is lt are missed =
    subst (λ (n : ℕ). IsUnread told names before now n) (sym is) (record {
      inside = lt;
      before = files_before told names files count (omega (arith, each)) are;
      missing = missed;
    })

-- all were opened, and a read of one failed
none_missing : (told : Option NamedFiles) (names : List (List ℕ)) (files : List FileSeen) (file before now : ℕ) → file < length files → AreFilesOf told names files → IfSome told (λ named. now ≡ before)
    → IfSome told (λ named. (d : List ℕ) → now ≡ misses_after named (get_or names file d) before)
none_missing None names files file before now lt are same = tt
none_missing (Some named) names files file before now lt are same = λ d.
    same ∙ sym (there_is (get named (get_or names file d)) before (are file d nothing_seen lt).0)

pub data_unread : (told : Option NamedFiles) (names : List (List ℕ)) (files after : List FileSeen) (before now faults faults_now : ℕ) (end : Result Unit DataFault) → length files ≡ length names
    → AreFilesOf told names files → IsCaused end files after faults faults_now → IfSome told (λ named. now ≡ before) → IfRead (result_of end) (IsUnreadBehind told names before now)
data_unread told names files after before now faults faults_now end each are caused same = by_end end caused
  where
    by_end : (e : Result Unit DataFault) → IsCaused e files after faults faults_now → IfRead (result_of e) (IsUnreadBehind told names before now)
    by_end (Ok done) caused = tt
    by_end (Err (data_code.Read file)) caused = record {
      inside = omega (arith, caused.0, each);
      before = files_before told names files file (omega (arith, caused.0)) are;
      missing = none_missing told names files file before now caused.0 are same;
    }
    by_end (Err data_code.Write) caused = tt

-- a fault is told of the file whose count rose
pub data_faulty : (before now : List FileSeen) (failed : Type 0) (start mid last : Counts) (end : Result Unit DataFault) → length now ≡ length before → start.writing ≤ mid.writing
    → IsCaused end before now mid.writing last.writing → Causes (result_of end) (IfRead (result_of end) (IsFaulty failed now)) (Rose start.writing last.writing)
data_faulty before now failed start mid last end each later caused = by_end end caused
  where
    by_end : (e : Result Unit DataFault) → IsCaused e before now mid.writing last.writing → Causes (result_of e) (IfRead (result_of e) (IsFaulty failed now)) (Rose start.writing last.writing)
    by_end (Ok done) caused = tt
    by_end (Err (data_code.Read file)) caused = inr (omega (arith, caused.0, each), λ d. let rose = caused.1 d in omega (arith, rose))
    by_end (Err data_code.Write) caused = omega (arith, caused, later)

faulty_some : (failed : Type 0) (held : List FileSeen) (source : Source) → IsFaulty failed held source → failed ⊎ SomeFaulty held
faulty_some failed held source_code.Partial faulty = absurd faulty
faulty_some failed held (source_code.File file) (inl unopened) = inl unopened.1
faulty_some failed held (source_code.File file) (inr faulty) = inr (file, faulty.0, faulty.1)

pub causes_faulty : (result : Result Unit RestoreFault) (failed : Type 0) (held : List FileSeen) (Q R S : Type 0) → (failed ⊎ SomeFaulty held → Q) → (R → S) → Causes result (IfRead result (IsFaulty failed held)) R → Causes result Q S
causes_faulty (Ok done) failed held Q R S f h causes = tt
causes_faulty (Err (code.Refused fault)) failed held Q R S f h causes = causes
causes_faulty (Err (code.Read source)) failed held Q R S f h causes = f (faulty_some failed held source causes)
causes_faulty (Err code.Write) failed held Q R S f h causes = h causes
causes_faulty (Err code.NoMemory) failed held Q R S f h causes = tt

-- THE PARTIAL FILE

-- its header could not be read
pub header_unread : (fault : OpenFault) (told : Option NamedFiles) (files : List (List ℕ)) (misses : ℕ) → IfRead (Err (fault_of_open fault)) (IsUnreadBehind told files misses misses)
header_unread Read told files misses = refl
header_unread Memory told files misses = tt
header_unread fault told files misses = tt

-- no file stands before it
first_of_all : (told : Option NamedFiles) (names : List (List ℕ)) → IfSome told (λ named. AreThereBefore named names zero)
first_of_all None names = tt
first_of_all (Some named) names = λ i d lt. absurd (omega (arith, lt))

missed_partial : (told : Option NamedFiles) (names : NamesData) (before now : ℕ) → IfSome told (λ named. now ≡ misses_after named names.partial before)
    → IfSome told (λ named. (d : List ℕ) → now ≡ misses_after named (get_or (inputs_of names) zero d) before)
missed_partial None names before now missed = tt
missed_partial (Some named) names before now missed = λ d. missed

-- it could not be opened
pub partial_unopened : (told : Option NamedFiles) (names : NamesData) (before now : ℕ) → IfSome told (λ named. now ≡ misses_after named names.partial before) → IsUnread told (inputs_of names) before now zero
partial_unopened told names before now missed = record {
  inside = omega arith;
  before = first_of_all told (inputs_of names);
  missing = missed_partial told names before now missed;
}

-- it was opened, and this is said of the files after it
module _ (names : NamesData) (bytes : Option (List ℕ)) (before opened worked now : ℕ) (last : now ≡ worked) where
  still_there : (told : Option NamedFiles) → IsFileOf told names.partial bytes → IfSome told (λ named. opened ≡ before) → worked ≡ opened → IfSome told (λ named. now ≡ misses_after named names.partial before)
  still_there None is first same = tt
  still_there (Some named) is first same = last ∙ same ∙ first ∙ sym (there_is (get named names.partial) before is.0)

  there_behind : (told : Option NamedFiles) (place : ℕ) → IsFileOf told names.partial bytes → IfSome told (λ named. AreThereBefore named names.files place)
      → IfSome told (λ named. AreThereBefore named (inputs_of names) (suc place))
  there_behind None place is there = tt
  there_behind (Some named) place is there = by_place
    where
      by_place : (i : ℕ) (d : List ℕ) → i < suc place → IsSome (get named (get_or (inputs_of names) i d))
      by_place zero d lt = is.0
      by_place (suc i) d lt = there i d (omega (arith, lt))

  missed_behind : (told : Option NamedFiles) (place : ℕ) → IfSome told (λ named. opened ≡ before) → IfSome told (λ named. (d : List ℕ) → worked ≡ misses_after named (get_or names.files place d) opened)
      → IfSome told (λ named. (d : List ℕ) → now ≡ misses_after named (get_or (inputs_of names) (suc place) d) before)
  missed_behind None place first missed = tt
  missed_behind (Some named) place first missed = λ d. last ∙ missed d ∙ ap (misses_after named (get_or names.files place d)) first

  unread_source : (told : Option NamedFiles) (source : Source) → IsFileOf told names.partial bytes → IfSome told (λ named. opened ≡ before) → IsUnreadBehind told names.files opened worked source
      → IsUnread told (inputs_of names) before now (place_of source)
  unread_source told source_code.Partial is first unread = partial_unopened told names before now (still_there told is first unread)
  unread_source told (source_code.File file) is first unread = record {
    inside = omega (arith, unread.inside);
    before = there_behind told file is unread.before;
    missing = missed_behind told file first unread.missing;
  }

  pub unread_behind : (result : Result Unit RestoreFault) (told first_told : Option NamedFiles) → first_told ≡ told → IsFileOf told names.partial bytes → IfSome told (λ named. opened ≡ before)
      → IfRead result (IsUnreadBehind first_told names.files opened worked) → IfRead result (λ source. IsUnread told (inputs_of names) before now (place_of source))
  unread_behind (Ok done) told first_told same is first unread = tt
  unread_behind (Err (code.Refused fault)) told first_told same is first unread = tt
  unread_behind (Err (code.Read source)) told first_told same is first unread =
      unread_source told source is first (subst (λ (o : Option NamedFiles). IsUnreadBehind o names.files opened worked source) same unread)
  unread_behind (Err code.Write) told first_told same is first unread = tt
  unread_behind (Err code.NoMemory) told first_told same is first unread = tt
