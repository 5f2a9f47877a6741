-- Files in the order of their numbers, of an input whose bytes may change.
use Rattle.std.proofs.Common.{◌≡◌, ◌≤◌, ℕ, ◌+◌, List, [], ◌∷◌, ◌++◌, inl, inr, length, map, take, Option, Some, None, Result, Ok, Err, refl, sym, ap, subst, ◌∙◌, append_assoc, append-nil, arith}
use Rattle.std.specs.List.{range_with_len}
use Rattle.std.specs.Option.{IfSome, IsSomeAnd}
use Rattle.std.specs.FinMap.{insert}
use Rattle.std.proofs.lemmas.List.{length-append}
use Rattle.std.proofs.lemmas.List.FromFn.{map-range_with_len_more, take-map-range_with_len}
use Rattle.trace_base.specs.declared.part.Part.{Part}
use Rattle.trace_outside.specs.Folders.{IsEmptySink, Stores}
use Rattle.trace_outside.specs.Names.{NamedFiles}
use Rattle.trace_outside.specs.Seen.{FolderSeen}
use Rattle.dat_header.specs.declared.header.Header.{Header}
use Rattle.subpage.specs.ItemData.{ItemData}
use Rattle.subpage.specs.Arrangement.{Keyed}
use Rattle.subpage.specs.declared.cut_place.CutPlace.{CutPlace}
use Rattle.page_pool.specs.declared.lane.Lane.{Lane}
use Rattle.time_merge.specs.declared.ending.End.{End}
use Rattle.time_merge.specs.declared.ending.IoFault.{IoFault}
use Rattle.time_merge.specs.declared.ending.IoFault.TheVariants as fault
use Rattle.new_files.specs.Requested.{AskedAll, AskedFirst, names_of}
use Rattle.new_files.specs.Stored.{FilesStored, IsUnmade, NewFile, Stored}
use Rattle.split_tool.specs.Names.{file_name}
use Rattle.split_passes.specs.AllAgain.{TellsHeld}
use Rattle.split_passes.specs.Outputs.{LanesOutput}
use Rattle.split_passes.specs.Packs.{GainsSome}
use Rattle.split_tool.specs.Made.{AsksForIt, FilePlan, IsFinished, IsMade, IsWritten, LanesFiles, LeavesFile}
use Rattle.split_tool.specs.NewFiles.{AsksFor, end_by, files_from}
use Rattle.split_tool.specs.Numbered.{LeavesFiles, Numbered, first_names, numbered}
use Rattle.split_tool.specs.Unmaking.{ending_of}
use Rattle.split_tool.specs.declared.unmade.Unmade.{Unmade}
use Rattle.split_tool.specs.declared.unmade.Unmade.TheVariants as unmade
use Rattle.split_tool.proofs.Making.{stored_is}
use Rattle.split_tool.proofs.Storing.{stored_push, unmade_since}

-- ONE FILE

pub finished_is : (old old1 new : Option NamedFiles) (w0 w : Option (List ℕ)) (name name1 : List ℕ) → old1 ≡ old → name1 ≡ name → IsEmptySink old w0 → GainsSome w0 w → Stores old1 new name1 w → IsFinished name old new
finished_is old old1 new w0 w name name1 e n empty gains stores = (gains.0, stored_is old1 old new w0 w name name1 gains.0 e n empty gains.1 stores)

pub cut_off : (name : List ℕ) (lanes : List Lane) (before now : FolderSeen) (kind : Unmade) → TellsHeld lanes (ending_of kind) → now.files ≡ before.files → LeavesFile name lanes before now (Err kind)
cut_off name lanes before now (unmade.Malformed cut) held same = (same, held)
cut_off name lanes before now (unmade.Fault fault.Read) held same = same
cut_off name lanes before now (unmade.Fault fault.Write) held same = inl same

pub asks_for_it : (name : List ℕ) (before now : List (List ℕ)) (kind : Unmade) → AskedAll (name ∷ []) before now → AsksForIt name before now (Err kind)
asks_for_it name before now (unmade.Malformed cut) asked = asked
asks_for_it name before now (unmade.Fault fault.Read) asked = inr asked
asks_for_it name before now (unmade.Fault fault.Write) asked = asked

pub asked_by : (name own : List ℕ) (old mid new : List (List ℕ)) → own ≡ name → mid ≡ old ++ own ∷ [] → new ≡ mid → AskedAll (name ∷ []) old new
asked_by name own old mid new named one same = same ∙ one ∙ ap (λ (n : List ℕ). old ++ n ∷ []) named

-- over a file with these bytes
pub stopped_by : {T : Type 0} (plan : FilePlan) (header : Header) (file : List ℕ) (table : List Part) (lists : List (List ItemData)) (before after : LanesOutput) (old new : LanesFiles) (result : Result T Unmade) (kind : Unmade)
    → result ≡ Err kind → IsWritten header file table lists before after result → IsMade plan file old new (Err kind)
stopped_by plan header file table lists before after old new result (unmade.Malformed cut) is written = subst (IsWritten header file table lists before after) is written
stopped_by plan header file table lists before after old new result (unmade.Fault one) is written = tt

-- NAMES BY THEIR NUMBERS

next_name : (base : List ℕ) (n : ℕ) → first_names base (n + 1) ≡ first_names base n ++ file_name base (n + 1) ∷ []
next_name base n = map-range_with_len_more (file_name base) 1 n (n + 1) (omega arith)

names_from : (header : Header) (base : List ℕ) (n : ℕ) (items : List (List Keyed)) → names_of (files_from header base n items) ≡ map (file_name base) (range_with_len n (length (files_from header base n items)))
names_from header base n [] = refl
names_from header base n (xs ∷ more) = ap (λ (names : List (List ℕ)). file_name base n ∷ names) (names_from header base (n + 1) more)

pub names_new : (header : Header) (base : List ℕ) (items : List (List Keyed)) → names_of (files_from header base 1 items) ≡ first_names base (length (files_from header base 1 items))
names_new header base items = names_from header base 1 items

-- one name more was asked for
asked_more : (base : List ℕ) (count all number most : ℕ) (before mid now : List (List ℕ)) → all ≡ count → count + 1 ≡ number → most ≡ number → mid ≡ before ++ first_names base all → AskedAll (file_name base number ∷ []) mid now
    → now ≡ before ++ first_names base most
asked_more base count all number most before mid now none next is so_far one =
    let names : first_names base all ++ file_name base number ∷ [] ≡ first_names base most =
    ap (λ (n : ℕ). first_names base n ++ file_name base number ∷ []) none ∙ ap (λ (n : ℕ). first_names base count ++ file_name base n ∷ []) (sym next)
    ∙ sym (next_name base count) ∙ ap (first_names base) (next ∙ sym is) in
    one ∙ ap (λ (names : List (List ℕ)). names ++ file_name base number ∷ []) so_far ∙ append_assoc before (first_names base all) (file_name base number ∷ [])
    ∙ ap (λ (names : List (List ℕ)). before ++ names) names

-- FILE AFTER FILE

abbrev file_at : List ℕ → ℕ → List ℕ → NewFile
file_at base n content = record { name = file_name base n; content = content }

numbered_push : (base : List ℕ) (n m : ℕ) (contents : List (List ℕ)) (content : List ℕ) → n + length contents ≡ m → numbered base n (contents ++ content ∷ []) ≡ numbered base n contents ++ file_at base m content ∷ []
numbered_push base n m [] content is = ap (λ (k : ℕ). file_at base k content ∷ []) (omega (arith, is))
numbered_push base n m (first ∷ contents) content is = ap (λ (files : List NewFile). file_at base n first ∷ files) (numbered_push base (n + 1) m contents content (omega (arith, is)))

stored_more : (base : List ℕ) (number : ℕ) (contents : List (List ℕ)) (content : List ℕ) (old mid new : Option NamedFiles) → number ≡ 1 + length contents → FilesStored (numbered base 1 contents) old mid
    → IfSome mid (λ files. new ≡ Some (insert files (file_name base number) content)) → FilesStored (numbered base 1 (contents ++ content ∷ [])) old new
stored_more base number contents content None mid new is stored one = tt
stored_more base number contents content (Some files) None new is stored one = absurd stored
stored_more base number contents content (Some files) (Some middle) new is stored one =
    let file = file_at base number content in
    subst (λ (o : Option NamedFiles). IsSomeAnd o (λ after. Stored (numbered base 1 (contents ++ content ∷ [])) files after)) (sym one)
    (subst (λ (news : List NewFile). Stored news files (insert middle file.name file.content)) (sym (numbered_push base 1 number contents content (sym is))) (stored_push (numbered base 1 contents) file files middle stored))

stored_still : (news : List NewFile) (old mid new : Option NamedFiles) → new ≡ mid → FilesStored news old mid → FilesStored news old new
stored_still news old mid new same stored = subst (FilesStored news old) (sym same) stored

none_stored : (old : Option NamedFiles) → FilesStored [] old old
none_stored None = tt
none_stored (Some files) = refl

pub numbered_none : (base : List ℕ) (none : ℕ) (seen : FolderSeen) → none ≡ 0 → Numbered base none 0 seen seen
numbered_none base none seen is =
    let all : 0 ≡ none + 0 = omega (arith, is) in
    record {
      contents = [];
      long = sym is;
      stored = none_stored seen.files;
      requested = sym (append-nil seen.requested) ∙ ap (λ (n : ℕ). seen.requested ++ first_names base n) all;
    }

pub numbered_more : (base : List ℕ) (count number after : ℕ) (before mid now : FolderSeen) → count + 1 ≡ number → after ≡ number → IsFinished (file_name base number) mid.files now.files
    → AskedAll (file_name base number ∷ []) mid.requested now.requested → Numbered base count 0 before mid → Numbered base after 0 before now
numbered_more base count number after before mid now next is finished asked so_far = record {
  contents = so_far.contents ++ finished.0 ∷ [];
  long = omega (arith, length-append so_far.contents (finished.0 ∷ []), so_far.long, next, is);
  stored = stored_more base number so_far.contents finished.0 before.files mid.files now.files (omega (arith, so_far.long, next)) so_far.stored finished.1;
  requested = asked_more base count (count + 0) number (after + 0) before.requested mid.requested now.requested (omega arith) next (omega (arith, is)) so_far.requested asked;
}

-- THE END OF A SPLIT

pub finished_all : (base : List ℕ) (lanes : List Lane) (count : ℕ) (before now : FolderSeen) (bad : Option CutPlace) (result : End) → result ≡ end_by bad → Numbered base count 0 before now → LeavesFiles base lanes before now (Ok result)
finished_all base lanes count before now None result is all = subst (λ (end : End). LeavesFiles base lanes before now (Ok end)) (sym is) (count, all)
finished_all base lanes count before now (Some bad) result is all = subst (λ (end : End). LeavesFiles base lanes before now (Ok end)) (sym is) (inl (count, all))

pub stops_there : (base : List ℕ) (lanes : List Lane) (count number : ℕ) (before mid now : FolderSeen) (kind : Unmade) (result : Result End IoFault) → result ≡ ending_of kind → count + 1 ≡ number
    → before.counts.unfinished ≤ mid.counts.unfinished → Numbered base count 0 before mid
    → LeavesFile (file_name base number) lanes mid now (Err kind) → AsksForIt (file_name base number) mid.requested now.requested (Err kind) → LeavesFiles base lanes before now result
stops_there base lanes count number before mid now kind result is next since so_far leaves asks = subst (LeavesFiles base lanes before now) (sym is) (by_kind kind leaves asks)
  where
    begun : (seen : FolderSeen) → seen.files ≡ mid.files → AskedAll (file_name base number ∷ []) mid.requested seen.requested → Numbered base count 1 before seen
    begun seen same asked = record {
      contents = so_far.contents;
      long = so_far.long;
      stored = stored_still (numbered base 1 so_far.contents) before.files mid.files seen.files same so_far.stored;
      requested = asked_more base count (count + 0) number (count + 1) before.requested mid.requested seen.requested (omega arith) next next so_far.requested asked;
    }

    still : now.files ≡ mid.files → now.requested ≡ mid.requested → Numbered base count 0 before now
    still same asked = record {
      contents = so_far.contents;
      long = so_far.long;
      stored = stored_still (numbered base 1 so_far.contents) before.files mid.files now.files same so_far.stored;
      requested = asked ∙ so_far.requested;
    }

    by_kind : (k : Unmade) → LeavesFile (file_name base number) lanes mid now (Err k) → AsksForIt (file_name base number) mid.requested now.requested (Err k) → LeavesFiles base lanes before now (ending_of k)
    by_kind (unmade.Malformed cut) leaves asks = inr ((count, begun now leaves.0 asks), leaves.1)
    by_kind (unmade.Fault fault.Read) leaves (inl none) = inl (count, still leaves none)
    by_kind (unmade.Fault fault.Read) leaves (inr asked) = inr (count, begun now leaves asked)
    by_kind (unmade.Fault fault.Write) leaves asks = record {
      count = count;
      files = mid.files;
      others = begun (record now { files = mid.files }) refl asks;
      last = unmade_since before.counts.unfinished mid.counts.unfinished now.counts.unfinished (file_name base (count + 1)) mid.files now.files since
          (subst (λ (n : ℕ). IsUnmade mid.counts.unfinished now.counts.unfinished (file_name base n) mid.files now.files) (sym next) leaves);
    }

-- WHAT WAS ASKED FOR, OF AN INPUT WHOSE BYTES ARE KNOWN

pub asked_none : (names before : List (List ℕ)) → AskedFirst names before before
asked_none names before = (0, sym (append-nil before))

pub asked_few : (base : List ℕ) (news : List NewFile) (count : ℕ) (before now : List (List ℕ)) → names_of news ≡ first_names base (length news) → count ≤ length news → now ≡ before ++ first_names base count → AskedFirst (names_of news) before now
asked_few base news count before now names few asked =
    (count, asked ∙ ap (λ (ns : List (List ℕ)). before ++ ns) (sym (ap (take count) names ∙ take-map-range_with_len (file_name base) 1 (length news) count few)))

pub asked_all : (base : List ℕ) (news : List NewFile) (count : ℕ) (before now : List (List ℕ)) (end : End) → names_of news ≡ first_names base (length news) → length news ≡ count
    → now ≡ before ++ first_names base count → AsksFor news before now (Ok end)
asked_all base news count before now end names long asked =
    asked ∙ ap (λ (n : ℕ). before ++ first_names base n) (sym long) ∙ ap (λ (ns : List (List ℕ)). before ++ ns) (sym names)

pub asked_stops : (plan : FilePlan) (file : List ℕ) (old new : LanesFiles) (base : List ℕ) (news : List NewFile) (count number : ℕ) (before mid now : List (List ℕ)) (kind : Unmade) (result : Result End IoFault) → result ≡ ending_of kind
    → IsMade plan file old new (Err kind) → names_of news ≡ first_names base (length news) → count + 1 ≡ number → number ≤ length news → mid ≡ before ++ first_names base (count + 0)
    → AsksForIt (file_name base number) mid now (Err kind) → AsksFor news before now result
asked_stops plan file old new base news count number before mid now kind result is made names next few so_far asks = subst (AsksFor news before now) (sym is) (by_kind kind made asks)
  where
    begun : AskedAll (file_name base number ∷ []) mid now → AskedFirst (names_of news) before now
    begun asked = asked_few base news number before now names few (asked_more base count (count + 0) number number before mid now (omega arith) next refl so_far asked)

    by_kind : (k : Unmade) → IsMade plan file old new (Err k) → AsksForIt (file_name base number) mid now (Err k) → AsksFor news before now (ending_of k)
    by_kind (unmade.Malformed cut) made asks = absurd made
    by_kind (unmade.Fault fault.Read) made (inl none) = asked_few base news (count + 0) before now names (omega (arith, next, few)) (none ∙ so_far)
    by_kind (unmade.Fault fault.Read) made (inr asked) = begun asked
    by_kind (unmade.Fault fault.Write) made asks = begun asks
