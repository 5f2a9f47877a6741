-- Files opened and closed, one after another.
use Rattle.std.specs.Prelude.{is_none, if◌then◌else◌}
use Rattle.std.proofs.Common.{◌≡◌, ℕ, zero, suc, ◌+◌, ◌<◌, List, [], ◌∷◌, ◌++◌, length, get_or, map, Option, None, Some, refl, sym, ap, subst, ◌∙◌, arith, append_assoc, inl, inr}
use Rattle.std.specs.List.{All}
use Rattle.std.proofs.lemmas.Bool.{cases_lt}
use Rattle.std.proofs.lemmas.List.{length-map, length-append, map-append, get_or-map, get_or_append_left}
use Rattle.std.proofs.Math.Seq.{get_or-append_seam}
use Rattle.std.proofs.lemmas.List.Elements.{All-head, All-push, All-tail}
use Rattle.std.proofs.lemmas.List.Sums.{sum_by-cons}
use Rattle.trace_outside.specs.declared.counts.Counts.{Counts}
use Rattle.trace_outside.specs.Causes.{Rose, raised}
use Rattle.std.specs.Option.{IsSome}
use Rattle.trace_outside.specs.Folders.{Closes, IsFileOf}
use Rattle.trace_outside.specs.Names.{NamedFiles}
use Rattle.trace_outside.specs.Seen.{FileSeen}
use Rattle.trace_outside.specs.Open.{AreFilesOf, ClosesMany, IsUnused, OpensMany}

pub closes_none : (counts : Counts) → ClosesMany [] counts counts
closes_none counts = record {
  reading = omega arith;
  clean = λ none. refl;
  writing = refl;
  faulty = λ i d lt. absurd (omega arith);
  misses = refl;
  opened = refl;
  closed = omega arith;
  created = refl;
  unfinished = refl;
  bytes = omega arith;
}

-- one more is closed
pub closes_more : (x : FileSeen) (xs : List FileSeen) (before mid now : Counts) → ClosesMany xs before mid → Closes x.faults x.reads mid now → ClosesMany (x ∷ xs) before now
closes_more x xs before mid now many one = record {
  reading = omega (arith, many.reading, one.reading);
  clean = λ none. one.clean (All-head (λ (file : FileSeen). file.faults ≡ 0) x xs none) ∙ many.clean (All-tail (λ (file : FileSeen). file.faults ≡ 0) x xs none);
  writing = one.writing ∙ many.writing;
  faulty = faulty;
  misses = one.misses ∙ many.misses;
  opened = one.opened ∙ many.opened;
  closed = omega (arith, one.closed, many.closed);
  created = one.created ∙ many.created;
  unfinished = one.unfinished ∙ many.unfinished;
  bytes = omega (arith, one.bytes, many.bytes, sum_by-cons (λ (file : FileSeen). file.reads) x xs);
}
  where
    faulty : (i : ℕ) (d : FileSeen) → i < length (x ∷ xs) → 0 < (get_or (x ∷ xs) i d).faults → Rose before.reading now.reading
    faulty zero d lt some = let rose = one.faulty some in omega (arith, many.reading, rose)
    faulty (suc i) d lt some = let rose = many.faulty i d (omega arith) some in omega (arith, rose, one.reading)

-- the last of files that are open
pub last_of : {F : Type 0} (f : F → FileSeen) (all front rest tail : List F) (x : F) → all ≡ front ++ tail → front ≡ rest ++ x ∷ [] → all ≡ rest ++ x ∷ tail
last_of f all front rest tail x e g = e ∙ ap (λ ys. ys ++ tail) g ∙ append_assoc rest (x ∷ []) tail

-- one more is open
pub files_more : (told : Option NamedFiles) (names : List (List ℕ)) (files : List FileSeen) (x : FileSeen) → AreFilesOf told names files
    → ((d : List ℕ) → IsFileOf told (get_or names (length files) d) x.bytes) → AreFilesOf told names (files ++ x ∷ [])
files_more told names files x are one i d e lt = elim (cases_lt i (length files)) [
  | inl inside ↦ subst (λ (h : FileSeen). IsFileOf told (get_or names i d) h.bytes) (sym (get_or_append_left files (x ∷ []) e i inside)) (are i d e inside)
  | inr past ↦
      let here : i ≡ length files = omega (arith, past, lt, length-append files (x ∷ [])) in
      subst (λ (k : ℕ). IsFileOf told (get_or names k d) (get_or (files ++ x ∷ []) k e).bytes) (sym here)
      (subst (λ (h : FileSeen). IsFileOf told (get_or names (length files) d) h.bytes) (sym (get_or-append_seam files x [] e)) (one d))
]

-- the same of files that are seen
module _ {F : Type 0} (f : F → FileSeen) where
  pub seen_more : (told : Option NamedFiles) (names : List (List ℕ)) (files now : List F) (x : F) → now ≡ files ++ x ∷ [] → AreFilesOf told names (map f files)
      → ((d : List ℕ) → IsFileOf told (get_or names (length files) d) (f x).bytes) → AreFilesOf told names (map f now)
  seen_more told names files now x is are one =
      subst (AreFilesOf told names) (sym (ap (map f) is ∙ map-append f files (x ∷ [])))
      (files_more told names (map f files) (f x) are (λ d. subst (λ (k : ℕ). IsFileOf told (get_or names k d) (f x).bytes) (sym (length-map files f)) (one d)))

  pub unused_more : (files now : List F) (x : F) → now ≡ files ++ x ∷ [] → IsUnused (f x) → All IsUnused (map f files) → All IsUnused (map f now)
  unused_more files now x is one all = subst (All IsUnused) (sym (ap (map f) is ∙ map-append f files (x ∷ []))) (All-push IsUnused (map f files) (f x) all one)

pub opens_more : (before mid now : Counts) (a b c : ℕ) → OpensMany before mid a → OpensMany mid now b → c ≡ a + b → OpensMany before now c
opens_more before mid now a b c p q e = record {
  reading = omega (arith, p.reading, q.reading);
  writing = q.writing ∙ p.writing;
  misses = omega (arith, p.misses, q.misses);
  opened = omega (arith, p.opened, q.opened, e);
  closed = q.closed ∙ p.closed;
  created = q.created ∙ p.created;
  unfinished = q.unfinished ∙ p.unfinished;
  bytes = q.bytes ∙ p.bytes;
}

pub name_told : {N : Type 0} (now : N → List ℕ) (names : List N) (told told1 : Option NamedFiles) (k count : ℕ) (x : N) (d : List ℕ) (bytes : Option (List ℕ)) → told1 ≡ told → count ≡ k → k < length names
    → IsFileOf told1 (now (get_or names k x)) bytes → IsFileOf told (get_or (map now names) count d) bytes
name_told now names told told1 k count x d bytes same counted lt is =
    subst (λ (t : Option NamedFiles). IsFileOf t (get_or (map now names) count d) bytes) same
    (subst (λ (n : ℕ). IsFileOf told1 (get_or (map now names) n d) bytes) (sym counted)
    (subst (λ (name : List ℕ). IsFileOf told1 name bytes) (sym (get_or-map now names k x d lt)) is))

-- NAMES THAT ARE MISSING

pub there_is : (found : Option (List ℕ)) (misses : ℕ) → IsSome found → (if is_none found then raised misses 1 else misses) ≡ misses
there_is None misses there = absurd cc
there_is (Some bytes) misses there = refl

-- all are closed
pub closes_all : {F : Type 0} (f : F → FileSeen) (all left tail : List F) (before now : Counts) → all ≡ left ++ tail → length left ≡ 0 → ClosesMany (map f tail) before now → ClosesMany (map f all) before now
closes_all {F} f all [] tail before now e none closes = subst (λ (xs : List F). ClosesMany (map f xs) before now) (sym e) closes
closes_all {F} f all (x ∷ left) tail before now e none closes = absurd (omega (arith, none))
