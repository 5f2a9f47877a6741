-- A split, as one of the four endings.
use Rattle.std.proofs.Common.{◌≡◌, ℕ, List, length, Option, None, Some, Result, Ok, Err, IfSome, IsErrOf, refl, ap, subst}
use Rattle.std.specs.Option.{option_map}
use Rattle.trace_base.specs.declared.part.Part.{Part}
use Rattle.trace_outside.specs.Causes.{Rose}
use Rattle.trace_outside.proofs.Gains.{gained_nothing}
use Rattle.trace_args.specs.Command.{SplitData}
use Rattle.dat_header.specs.declared.header.Header.{Header}
use Rattle.dat_header.specs.Written.{without_instances}
use Rattle.time_merge.specs.declared.ending.End.{End}
use Rattle.time_merge.specs.declared.ending.End.TheVariants as end
use Rattle.time_merge.specs.declared.ending.IoFault.{IoFault}
use Rattle.time_merge.specs.declared.ending.IoFault.TheVariants as fault
use Rattle.split_pieces.specs.declared.rules.Rules.{Rules}
use Rattle.split_tool.specs.NewFiles.{Creates, IsSplit, end_of, new_files}
use Rattle.new_files.specs.Stored.{NewFile}
use Rattle.run_endings.specs.Ending.{Ends, IsCaused, LeavesAll, MakesFiles}
use Rattle.run_endings.specs.Meaning.{on_folder}
use Rattle.split_run.specs.Split.{rules_of, split_by, split_end, split_files, taken_of}
use Rattle.run_endings.specs.Outside.{FolderSeen, SinkSeen, beside}
use Rattle.run_endings.specs.Ends.{status_of_end}
use Rattle.run_endings.proofs.Faultless.{end_kept}

module _ (words : SplitData) (header : Header) (before now : FolderSeen) (out : SinkSeen) where
  -- the four answers of a split
  split_ends : (bytes : List ℕ) (answer : Result End IoFault) → IsSplit (split_files words header bytes) (split_end words header bytes) before now answer
      → Creates (length (split_files words header bytes)) before.counts.created now.counts.created answer
      → Ends (split_by words header bytes) (status_of_end answer) (beside before out) (beside now out)
  split_ends bytes (Ok end.Done) split creates = record { answer = ap (λ (last : End). status_of_end (Ok last)) split.0; output = gained_nothing out.written; files = split.1; created = creates }
  split_ends bytes (Ok (end.Malformed cut)) split creates =
      record { answer = ap (λ (last : End). status_of_end (Ok last)) split.0; output = gained_nothing out.written; files = split.1; created = creates }
  split_ends bytes (Err fault.Read) split creates = record { output = (0, gained_nothing out.written); files = split; created = creates }
  split_ends bytes (Err fault.Write) split creates = record { output = (0, gained_nothing out.written); files = split; created = creates }

  split_leaves : (answer : Result End IoFault) → LeavesAll (status_of_end answer) (beside before out) (beside now out)
  split_leaves (Ok end.Done) = tt
  split_leaves (Ok (end.Malformed cut)) = tt
  split_leaves (Err fault.Read) = tt
  split_leaves (Err fault.Write) = tt

  split_caused : (unread : Type 0) (answer : Result End IoFault) → (IsErrOf answer fault.Read → unread) → (IsErrOf answer fault.Write → Rose before.counts.writing now.counts.writing)
      → IsCaused on_folder unread (status_of_end answer) (beside before out) (beside now out)
  split_caused unread (Ok end.Done) read write = tt
  split_caused unread (Ok (end.Malformed cut)) read write = tt
  split_caused unread (Err fault.Read) read write = read refl
  split_caused unread (Err fault.Write) read write = write refl

-- a split of the header that was read, and of the parts that are taken
pub cut_told : (words : SplitData) (rules : Rules) (header dropped : Header) (parts : List (ℕ × Part)) (bytes : List ℕ) (fact : List NewFile → End → Type 0)
    → rules ≡ rules_of words → dropped ≡ without_instances header → parts ≡ taken_of words.cpu header.body
    → fact (new_files rules words.base dropped bytes parts) (end_of rules dropped bytes parts) → fact (split_files words header bytes) (split_end words header bytes)
cut_told words rules header dropped parts bytes fact rules_are dropped_is parts_are told =
    subst (λ (ps : List (ℕ × Part)). fact (new_files (rules_of words) words.base (without_instances header) bytes ps) (end_of (rules_of words) (without_instances header) bytes ps)) parts_are
    (subst (λ (h : Header). fact (new_files (rules_of words) words.base h bytes parts) (end_of (rules_of words) h bytes parts)) dropped_is
    (subst (λ (r : Rules). fact (new_files r words.base dropped bytes parts) (end_of r dropped bytes parts)) rules_are told))

pub cut : (unread : Type 0) (words : SplitData) (rules : Rules) (header dropped : Header) (parts : List (ℕ × Part)) (told : Option (List ℕ)) (before now : FolderSeen)
    (answer : Result End IoFault) → rules ≡ rules_of words → dropped ≡ without_instances header → parts ≡ taken_of words.cpu header.body
    → IfSome told (λ bytes. IsSplit (new_files rules words.base dropped bytes parts) (end_of rules dropped bytes parts) before now answer)
    → IfSome told (λ bytes. Creates (length (new_files rules words.base dropped bytes parts)) before.counts.created now.counts.created answer)
    → (IsErrOf answer fault.Read → unread) → (IsErrOf answer fault.Write → Rose before.counts.writing now.counts.writing)
    → MakesFiles unread (option_map (split_by words header) told) (status_of_end answer) before now
cut unread words rules header dropped parts told before now answer rules_are dropped_is parts_are split creates read write = λ out. record {
  ends = by_told told out split creates;
  untouched = split_leaves words header before now out answer;
  causes = split_caused words header before now out unread answer read write;
  kept = end_kept _ answer;
}
  where
    by_told : (known : Option (List ℕ)) (out : SinkSeen)
        → IfSome known (λ bytes. IsSplit (new_files rules words.base dropped bytes parts) (end_of rules dropped bytes parts) before now answer)
        → IfSome known (λ bytes. Creates (length (new_files rules words.base dropped bytes parts)) before.counts.created now.counts.created answer)
        → IfSome (option_map (split_by words header) known) (λ m. Ends m (status_of_end answer) (beside before out) (beside now out))
    by_told None out told made = tt
    by_told (Some bytes) out told made =
        split_ends words header before now out bytes answer
        (cut_told words rules header dropped parts bytes (λ news last. IsSplit news last before now answer) rules_are dropped_is parts_are told)
        (cut_told words rules header dropped parts bytes (λ news last. Creates (length news) before.counts.created now.counts.created answer) rules_are dropped_is parts_are made)
