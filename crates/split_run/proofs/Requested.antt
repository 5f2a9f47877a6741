-- The names that a split asks for, and what it leaves of the folder.
use Rattle.std.proofs.Common.{◌≡◌, ℕ, ◌+◌, List, ◌++◌, length, Option, None, Some, Result, Ok, Err, IfSome, inl, inr, refl, subst}
use Rattle.std.specs.Option.{option_map}
use Rattle.trace_base.specs.declared.part.Part.{Part}
use Rattle.trace_args.specs.Command.{SplitData}
use Rattle.dat_header.specs.declared.header.Header.{Header}
use Rattle.dat_header.specs.Written.{without_instances}
use Rattle.page_pool.specs.declared.lane.Lane.{Lane}
use Rattle.time_merge.specs.declared.ending.End.{End}
use Rattle.time_merge.specs.declared.ending.End.TheVariants as end
use Rattle.time_merge.specs.declared.ending.IoFault.{IoFault}
use Rattle.time_merge.specs.declared.ending.IoFault.TheVariants as fault
use Rattle.split_pieces.specs.Cuts.{file_items}
use Rattle.split_pieces.specs.declared.rules.Rules.{Rules}
use Rattle.new_files.specs.Requested.{AskedFirst, names_of}
use Rattle.new_files.specs.Stored.{NewFile}
use Rattle.split_tool.specs.NewFiles as new
use Rattle.split_tool.specs.NewFiles.{new_files}
use Rattle.split_tool.specs.Numbered.{LeavesFiles, first_names}
use Rattle.split_tool.proofs.Numbering.{names_new}
use Rattle.run_endings.specs.Ends.{status_of_end}
use Rattle.run_endings.specs.Outside.{FolderSeen}
use Rattle.run_endings.specs.Requested.{AsksFor}
use Rattle.run_endings.specs.Meaning.{Meaning}
use Rattle.run_endings.proofs.Requesting.{asked_few, asked_none, asks_for}
use Rattle.split_run.specs.Leaves.{LeavesFolder}
use Rattle.split_run.specs.Split.{rules_of, split_by, split_files, taken_of}
use Rattle.split_run.proofs.Splits.{cut_told}

-- there was no memory to begin, and no name was asked for
pub unbegun : (base : List ℕ) (means : Option Meaning) (before : List (List ℕ)) → AsksFor (first_names base) means before before
unbegun base means before = asks_for (first_names base) means before before (λ news. asked_none (first_names base news) before)

-- what the work on the files left
pub folder_left : (base : List ℕ) (lanes : List Lane) (before now : FolderSeen) (answer : Result End IoFault) → LeavesFiles base lanes before now answer
    → LeavesFolder base (status_of_end answer) before now
folder_left base lanes before now (Ok end.Done) leaves = leaves
folder_left base lanes before now (Ok (end.Malformed cut)) (inl finished) = inl finished
folder_left base lanes before now (Ok (end.Malformed place)) (inr cut) = inr cut.0
folder_left base lanes before now (Err fault.Read) leaves = leaves
folder_left base lanes before now (Err fault.Write) leaves = leaves

-- the names of some first files were asked for, whatever the bytes of the input are
abbrev AskedSome : List ℕ → FolderSeen → FolderSeen → Type 0
AskedSome base before now = (news : ℕ) × (now.requested ≡ before.requested ++ first_names base news)

asked_some : (base : List ℕ) (lanes : List Lane) (before now : FolderSeen) (answer : Result End IoFault) → LeavesFiles base lanes before now answer → AskedSome base before now
asked_some base lanes before now (Ok end.Done) finished = (finished.0 + 0, finished.1.requested)
asked_some base lanes before now (Ok (end.Malformed cut)) (inl finished) = (finished.0 + 0, finished.1.requested)
asked_some base lanes before now (Ok (end.Malformed place)) (inr cut) = (cut.0.0 + 1, cut.0.1.requested)
asked_some base lanes before now (Err fault.Read) (inl finished) = (finished.0 + 0, finished.1.requested)
asked_some base lanes before now (Err fault.Read) (inr cut) = (cut.0 + 1, cut.1.requested)
asked_some base lanes before now (Err fault.Write) unmade = (unmade.count + 1, unmade.others.requested)

-- of files that are told, the first few or all
asked_told : (news : List NewFile) (before now : List (List ℕ)) (answer : Result End IoFault) → new.AsksFor news before now answer → AskedFirst (names_of news) before now
asked_told news before now (Ok last) asked = asked_few (names_of news) before now asked
asked_told news before now (Err kind) asked = asked

pub asks_cut : (words : SplitData) (rules : Rules) (header dropped : Header) (parts : List (ℕ × Part)) (told : Option (List ℕ)) (lanes : List Lane) (before now : FolderSeen) (answer : Result End IoFault)
    → rules ≡ rules_of words → dropped ≡ without_instances header → parts ≡ taken_of words.cpu header.body
    → IfSome told (λ bytes. new.AsksFor (new_files rules words.base dropped bytes parts) before.requested now.requested answer) → LeavesFiles words.base lanes before now answer
    → AsksFor (first_names words.base) (option_map (split_by words header) told) before.requested now.requested
asks_cut words rules header dropped parts None lanes before now answer rules_are dropped_is parts_are asks leaves =
    let some = asked_some words.base lanes before now answer leaves in
    record { news = some.0; meant = tt; asked = asked_few (first_names words.base some.0) before.requested now.requested some.1 }
asks_cut words rules header dropped parts (Some bytes) lanes before now answer rules_are dropped_is parts_are asks leaves = record {
  news = length (split_files words header bytes);
  meant = refl;
  asked = cut_told words rules header dropped parts bytes (λ news last. AskedFirst (first_names words.base (length news)) before.requested now.requested) rules_are dropped_is parts_are
      (subst (λ (names : List (List ℕ)). AskedFirst names before.requested now.requested) (names_new dropped words.base (file_items rules dropped.layout bytes parts))
      (asked_told (new_files rules words.base dropped bytes parts) before.requested now.requested answer asks));
}
