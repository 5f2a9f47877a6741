-- The names that were asked for, and counts of faults where there was no memory.
use Rattle.std.proofs.Common.{◌≡◌, ◌<◌, ◌≤◌, ◌+◌, ℕ, zero, suc, List, [], ◌∷◌, ◌++◌, length, get_or, map, take, Result, Ok, Err, refl, sym, ap, subst, ◌∙◌, append_assoc, append-nil, arith}
use Rattle.std.specs.List.{All}
use Rattle.std.proofs.lemmas.List.{take-append-le, take_all}
use Rattle.std.proofs.lemmas.List.Elements.{All-nil}
use Rattle.trace_outside.specs.declared.counts.Counts.{Counts}
use Rattle.trace_outside.specs.Folders.{Closes}
use Rattle.trace_outside.specs.Memory.{KeepsFaults}
use Rattle.trace_outside.specs.Seen.{FileSeen}
use Rattle.trace_outside.specs.Open.{ClosesMany}
use Rattle.dat_options.specs.declared.fault.OpenFault.{OpenFault}
use Rattle.dat_options.specs.declared.fault.OpenFault.TheVariants.{Read, Memory}
use Rattle.dat_options.specs.Answer.{KeptAt}
use Rattle.new_files.specs.Requested.{AskedAll, AskedFirst}
use Rattle.restore_tool.specs.declared.copying.DataFault.{DataFault}
use Rattle.restore_tool.specs.declared.copying.DataFault.TheVariants as data_code
use Rattle.restore_tool.specs.declared.named.RestoreFault.{RestoreFault}
use Rattle.restore_tool.specs.declared.named.RestoreFault.TheVariants as code
use Rattle.restore_tool.specs.Answers.{IfNoMemory, fault_of_open}
use Rattle.restore_tool.specs.Asked.{AsksFor}
use Rattle.restore_tool.proofs.Answered.{result_of}

-- NAMES

-- none was asked for
pub asked_none : (names before : List (List ℕ)) → AskedFirst names before before
asked_none names before = (0, sym (append-nil before))

-- one name more
pub asked_next : (names before mid now : List (List ℕ)) (i : ℕ) (name : List ℕ) → take (i + 1) names ≡ take i names ++ name ∷ [] → AskedAll (take i names) before mid → AskedAll (name ∷ []) mid now → AskedAll (take (i + 1) names) before now
asked_next names before mid now i name more so_far one =
    one ∙ ap (λ (xs : List (List ℕ)). xs ++ name ∷ []) so_far ∙ append_assoc before (take i names) (name ∷ []) ∙ ap (λ (xs : List (List ℕ)). before ++ xs) (sym more)

-- the front of a row of names goes on
pub take_mapped : {N : Type 0} (now : N → List ℕ) (names : List N) (i : ℕ) (e : N) → i < length names → take (i + 1) (map now names) ≡ take i (map now names) ++ now (get_or names i e) ∷ []
take_mapped now [] i e lt = absurd (omega (arith, lt))
take_mapped now (name ∷ names) zero e lt = refl
take_mapped now (name ∷ names) (suc i) e lt =
    let further : suc i + 1 ≡ suc (i + 1) = omega arith in
    ap (λ (n : ℕ). take n (now name ∷ map now names)) further ∙ ap (λ (xs : List (List ℕ)). now name ∷ xs) (take_mapped now names i e (omega (arith, lt)))

-- all of it
pub asked_over : (names before now : List (List ℕ)) (i count : ℕ) → length names ≤ i → length names ≤ count → AskedAll (take i names) before now → AskedAll (take count names) before now
asked_over names before now i count over long asked = asked ∙ ap (λ (xs : List (List ℕ)). before ++ xs) (take_all i names over ∙ sym (take_all count names long))

-- one of the files could not be opened
pub asked_few : (names more before now : List (List ℕ)) (count : ℕ) → count ≤ length names → AskedAll (take count names) before now → AskedFirst (names ++ more) before now
asked_few names more before now count few asked = (count, asked ∙ ap (λ (xs : List (List ℕ)). before ++ xs) (sym (take-append-le count names more few)))

-- all were opened, and the new one was asked for
pub asked_made : (names before mid now : List (List ℕ)) (output : List ℕ) (count : ℕ) (end : Result Unit DataFault) → length names ≤ count → AskedAll (take count names) before mid → AskedAll (output ∷ []) mid now
    → AsksFor (names ++ output ∷ []) before now (result_of end)
asked_made names before mid now output count end long opened made = by_end end
  where
    whole : List (List ℕ)
    whole = names ++ output ∷ []

    all : AskedAll whole before now
    all =
        made ∙ ap (λ (xs : List (List ℕ)). xs ++ output ∷ []) opened ∙ append_assoc before (take count names) (output ∷ [])
        ∙ ap (λ (xs : List (List ℕ)). before ++ (xs ++ output ∷ [])) (take_all count names long)

    by_end : (e : Result Unit DataFault) → AsksFor whole before now (result_of e)
    by_end (Ok done) = all
    by_end (Err (data_code.Read file)) = (length whole, all ∙ ap (λ (xs : List (List ℕ)). before ++ xs) (sym (take_all (length whole) whole (omega arith))))
    by_end (Err data_code.Write) = all

pub asks_then : (names before mid now : List (List ℕ)) (result : Result Unit RestoreFault) → now ≡ mid → AsksFor names before mid result → AsksFor names before now result
asks_then names before mid now result same asks = subst (λ (xs : List (List ℕ)). AsksFor names before xs result) (sym same) asks

-- the partial file has no header
pub unread_asks : (fault : OpenFault) (names before : List (List ℕ)) → AsksFor names before before (Err (fault_of_open fault))
unread_asks Read names before = asked_none names before
unread_asks Memory names before = asked_none names before
unread_asks fault names before = asked_none names before

-- with the partial file before
pub asks_first : (first : List ℕ) (names before mid now : List (List ℕ)) (result : Result Unit RestoreFault) → AskedAll (first ∷ []) before mid → AsksFor names mid now result → AsksFor (first ∷ names) before now result
asks_first first names before mid now result one asks = by_result result asks
  where
    all : (rest : List (List ℕ)) → AskedAll rest mid now → AskedAll (first ∷ rest) before now
    all rest asked = asked ∙ ap (λ (xs : List (List ℕ)). xs ++ rest) one ∙ append_assoc before (first ∷ []) rest

    few : AskedFirst names mid now → AskedFirst (first ∷ names) before now
    few asked = (suc asked.0, all (take asked.0 names) asked.1)

    by_result : (a : Result Unit RestoreFault) → AsksFor names mid now a → AsksFor (first ∷ names) before now a
    by_result (Ok done) asks = all names asks
    by_result (Err (code.Refused fault)) asks = few asks
    by_result (Err (code.Read source)) asks = few asks
    by_result (Err code.Write) asks = all names asks
    by_result (Err code.NoMemory) asks = few asks

-- COUNTS OF FAULTS

pub no_faults : (counts : Counts) → KeepsFaults counts counts
no_faults counts = record { reading = refl; writing = refl }

pub made_memory : (end : Result Unit DataFault) (P : Type 0) → IfNoMemory (result_of end) P
made_memory (Ok done) P = tt
made_memory (Err (data_code.Read file)) P = tt
made_memory (Err data_code.Write) P = tt

pub unread_memory : (fault : OpenFault) (before now : ℕ) (P : Type 0) → (now ≡ before → P) → KeptAt before now fault → IfNoMemory (Err (fault_of_open fault)) P
unread_memory Read before now P f kept = tt
unread_memory Memory before now P f kept = f kept
unread_memory fault before now P f kept = tt

pub memory_map : (result : Result Unit RestoreFault) (P Q : Type 0) → (P → Q) → IfNoMemory result P → IfNoMemory result Q
memory_map (Err code.NoMemory) P Q f p = f p
memory_map result P Q f p = tt

-- no file was open
pub closed_faults : {F : Type 0} (f : F → FileSeen) (files : List F) (start mid now : Counts) → files ≡ [] → ClosesMany (map f files) mid now → KeepsFaults start mid → KeepsFaults start now
closed_faults {F} f files start mid now none closes kept = record {
  reading = closes.clean (subst (λ (xs : List F). All (λ (file : FileSeen). file.faults ≡ 0) (map f xs)) (sym none) (All-nil (λ (file : FileSeen). file.faults ≡ 0))) ∙ kept.reading;
  writing = closes.writing ∙ kept.writing;
}

-- the partial file was opened and closed, and no read of it failed
pub partial_faults : (faults faults_now reads : ℕ) (start opened worked now : Counts) → opened.reading ≡ start.reading → opened.writing ≡ start.writing → faults ≡ 0 → Closes faults_now reads worked now
    → KeepsFaults opened worked → faults_now ≡ faults → KeepsFaults start now
partial_faults faults faults_now reads start opened worked now reading writing none closes kept same = record {
  reading = closes.clean (same ∙ none) ∙ kept.reading ∙ reading;
  writing = closes.writing ∙ kept.writing ∙ writing;
}
