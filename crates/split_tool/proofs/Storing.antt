-- Files that stand in a folder, one more after another.
use Rattle.std.proofs.Common.{◌≡◌, ◌≤◌, ◌⊎◌, ℕ, List, [], ◌∷◌, ◌++◌, inl, inr, length, take, slice_get, Option, Some, None, Result, Ok, Err, refl, sym, ap, subst, ◌∙◌, append_assoc, append-nil, arith}
use Rattle.std.specs.Option.{IfSome, IsSomeAnd}
use Rattle.std.specs.FinMap.{insert}
use Rattle.std.proofs.lemmas.List.{take_at}
use Rattle.trace_outside.specs.Names.{NamedFiles, SameBut}
use Rattle.trace_outside.specs.declared.counts.Counts.{Counts}
use Rattle.trace_outside.specs.Causes.{Rose}
use Rattle.time_merge.specs.declared.ending.End.{End}
use Rattle.time_merge.specs.declared.ending.IoFault.{IoFault}
use Rattle.time_merge.specs.declared.ending.IoFault.TheVariants as fault
use Rattle.split_tool.specs.NewFiles.{LeavesUnfinished}
use Rattle.new_files.specs.Stored.{KeepsCounts, IsUnmade, NewFile, Stored, FilesStored, IsNextOpen, FirstFilesStored}

-- files that stand in the folder by now, and those that are to come
pub record Stage (news more : List NewFile) (files : NamedFiles) (now : Option NamedFiles) : Type 0 where
  pub done : List NewFile
  pub middle : NamedFiles
  pub told : now ≡ Some middle
  pub stored : Stored done files middle
  pub whole : news ≡ done ++ more

-- where the folder tells its map
abbrev pub Stages : List NewFile → List NewFile → Option NamedFiles → Option NamedFiles → Type 0
Stages news more old now = IfSome old (λ files. Stage news more files now)

pub stored_push : (done : List NewFile) (f : NewFile) (files middle : NamedFiles) → Stored done files middle → Stored (done ++ f ∷ []) files (insert middle f.name f.content)
stored_push [] f files middle s = ap (λ (m : NamedFiles). insert m f.name f.content) s
stored_push (d ∷ done) f files middle s = stored_push done f (insert files d.name d.content) middle s

pub stages_none : (news : List NewFile) (old : Option NamedFiles) → Stages news news old old
stages_none news None = tt
stages_none news (Some files) = record { done = []; middle = files; told = refl; stored = refl; whole = refl }

-- a file was finished
pub stages_more : (news more : List NewFile) (f : NewFile) (old now new : Option NamedFiles) → IfSome now (λ m. new ≡ Some (insert m f.name f.content)) → Stages news (f ∷ more) old now → Stages news more old new
stages_more news more f None now new stored s = tt
stages_more news more f (Some files) now new stored s =
    let is : new ≡ Some (insert s.middle f.name f.content) = subst (λ (o : Option NamedFiles). IfSome o (λ m. new ≡ Some (insert m f.name f.content))) s.told stored in
    record {
      done = s.done ++ f ∷ [];
      middle = insert s.middle f.name f.content;
      told = is;
      stored = stored_push s.done f files s.middle s.stored;
      whole = s.whole ∙ sym (append_assoc s.done (f ∷ []) more);
    }

-- nothing is to come
pub all_stored : (news : List NewFile) (old now : Option NamedFiles) → Stages news [] old now → FilesStored news old now
all_stored news None now s = tt
all_stored news (Some files) now s =
    let whole : s.done ≡ news = sym (append-nil s.done) ∙ sym s.whole in
    subst (λ (o : Option NamedFiles). IsSomeAnd o (λ after. Stored news files after)) (sym s.told) (subst (λ (ds : List NewFile). Stored ds files s.middle) whole s.stored)

first_few : (news more : List NewFile) (files : NamedFiles) (now : Option NamedFiles) (s : Stage news more files now) → Stored (take (length s.done) news) files s.middle
first_few news more files now s =
    let few : s.done ≡ take (length s.done) news = sym (take_at s.done more (length s.done) refl) ∙ ap (take (length s.done)) (sym s.whole) in
    subst (λ (ds : List NewFile). Stored ds files s.middle) few s.stored

some_after : (new : Option NamedFiles) (P Q : NamedFiles → Type 0) → ((after : NamedFiles) → P after → Q after) → IsSomeAnd new P → IsSomeAnd new Q
some_after None P Q f h = h
some_after (Some after) P Q f h = f after h

-- the folder is as before
pub some_stored : (news more : List NewFile) (old now new : Option NamedFiles) → new ≡ now → Stages news more old now → (count : ℕ) × FilesStored (take count news) old new
some_stored news more None now new same s = (0, tt)
some_stored news more (Some files) now new same s =
    (length s.done, subst (λ (o : Option NamedFiles). IsSomeAnd o (λ after. Stored (take (length s.done) news) files after)) (sym (same ∙ s.told)) (first_few news more files now s))

next_at : (done : List NewFile) (f : NewFile) (more : List NewFile) → slice_get (done ++ f ∷ more) (length done) ≡ Some f
next_at [] f more = refl
next_at (d ∷ done) f more = next_at done f more

-- a fault of writing at the next file, whose name may be open
pub first_stored : (news more : List NewFile) (f : NewFile) (counts now_counts : Counts) (old now new : Option NamedFiles) → IsUnmade counts.unfinished now_counts.unfinished f.name now new → Stages news (f ∷ more) old now
    → FirstFilesStored news counts now_counts old new
first_stored news more f counts now_counts None now new unmade s = tt
first_stored news more f counts now_counts (Some files) now new unmade s = elim unmade [
  | inl same ↦ subst (λ (o : Option NamedFiles). IsSomeAnd o Few) (sym (same ∙ s.told)) (count, s.middle, few, inl refl)
  | inr both ↦
      let others : IsSomeAnd new (λ after. SameBut f.name s.middle after) = subst (λ (o : Option NamedFiles). IfSome o (λ m. IsSomeAnd new (λ after. SameBut f.name m after))) s.told both.1 in
      some_after new _ Few (λ after h. (count, s.middle, few, inr (both.0, subst (λ (o : Option NewFile). IsNextOpen o s.middle after) (sym next) h))) others
]
  where
    count : ℕ
    count = length s.done

    few : Stored (take count news) files s.middle
    few = first_few news (f ∷ more) files now s

    next : slice_get news count ≡ Some f
    next = ap (λ (ns : List NewFile). slice_get ns count) s.whole ∙ next_at s.done f more

    Few : NamedFiles → Type 0
    Few after = (n : ℕ) × (middle : NamedFiles) × Stored (take n news) files middle
        × ((after ≡ middle) ⊎ (Rose counts.unfinished now_counts.unfinished × IsNextOpen (slice_get news n) middle after))

-- a count that rose since then rose since before
pub unmade_since : (first before now : ℕ) (name : List ℕ) (old new : Option NamedFiles) → first ≤ before → IsUnmade before now name old new → IsUnmade first now name old new
unmade_since first before now name old new later unmade = elim unmade [
  | inl same ↦ inl same
  | inr both ↦ inr (omega (arith, both.0, later), both.1)
]

-- ---- counts

pub kept_twice : (before mid now : Counts) → KeepsCounts before mid → KeepsCounts mid now → KeepsCounts before now
kept_twice before mid now one two = record {
  reading = omega (arith, one.reading, two.reading);
  writing = omega (arith, one.writing, two.writing);
  unfinished = omega (arith, one.unfinished, two.unfinished);
  misses = two.misses ∙ one.misses;
  opened = two.opened ∙ one.opened;
  closed = two.closed ∙ one.closed;
  bytes = two.bytes ∙ one.bytes;
}

-- HOW MANY FILES COULD NOT BE FINISHED

pub leaves_since : (result : Result End IoFault) (first before now : ℕ) → before ≡ first → LeavesUnfinished before now result → LeavesUnfinished first now result
leaves_since result first before now same leaves = subst (λ (n : ℕ). LeavesUnfinished n now result) same leaves

-- each file that was created is given up or finished
pub leaves_same : (result : Result End IoFault) (before now : ℕ) → now ≡ before → LeavesUnfinished before now result
leaves_same (Ok end) before now same = same
leaves_same (Err fault.Read) before now same = same
leaves_same (Err fault.Write) before now same = (omega (arith, same), omega (arith, same))
