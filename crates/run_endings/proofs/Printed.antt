-- What a command prints, as one of the four endings.
use Rattle.std.proofs.Common.{◌≡◌, ℕ, length, List, [], ◌∷◌, Option, None, Some, IfSome, Result, Ok, Err, refl, sym, ap, ◌∙◌, subst, arith}
use Rattle.std.specs.Prelude.{IsErrOf}
use Rattle.std.proofs.lemmas.List.{append-nil}
use Rattle.std.specs.Option.{option_map}
use Rattle.trace_outside.specs.Causes.{Rose}
use Rattle.trace_outside.specs.Writing.{Gained, GainedPrefix}
use Rattle.new_files.specs.Stored.{NewFile, FilesStored}
use Rattle.trace_outside.proofs.Gains.{gained_nothing}
use Rattle.trace_outside.specs.Pieces.{text_of}
use Rattle.item_pass.specs.declared.passing.PassFault.{PassFault}
use Rattle.item_pass.specs.declared.passing.PassFault.TheVariants as pass
use Rattle.time_merge.specs.declared.ending.End.{End}
use Rattle.time_merge.specs.declared.ending.End.TheVariants as end
use Rattle.time_merge.specs.declared.ending.IoFault.{IoFault}
use Rattle.time_merge.specs.declared.ending.IoFault.TheVariants as fault
use Rattle.run_endings.specs.declared.status.Status.{Status}
use Rattle.run_endings.specs.declared.status.Status.TheVariants.{Done, Usage, Refused, Malformed, ReadFault, WriteFault, NoMemory}
use Rattle.run_endings.specs.Ending.{CountsNoFault, Ends, IfNoMemory, IsCaused, LeavesAll, Prints}
use Rattle.run_endings.specs.Meaning.{Meaning, on_out, prints}
use Rattle.run_endings.specs.Outside.{FolderSeen, Outside, SinkSeen, beside}
use Rattle.run_endings.specs.Output.{Shows, Writes, WritesFor}
use Rattle.run_endings.specs.Ends.{status_of_end, status_of_pass}
use Rattle.run_endings.proofs.Endings.{known_so, stored_none, stored_first_none, unprinted}

module _ (unread : Type 0) (folder : FolderSeen) (before now : SinkSeen) where
  abbrev was : Outside
  was = beside folder before

  abbrev is : Outside
  is = beside folder now

  ends : (m : Meaning) (status : Status) → m.files ≡ [] → Writes m status before.written now.written → Shows unread status before now → Ends m status was is
  ends m ReadFault none writes shows = record {
    output = writes;
    files = (0, stored_none folder.files folder.files refl);
    created = omega arith;
  }
  ends m WriteFault none writes shows = record {
    output = writes;
    files = stored_first_none m.files folder.counts folder.files folder.files refl;
    created = omega arith;
  }
  ends m Done none writes shows = record {
    answer = writes.0;
    output = writes.1;
    files = subst (λ (news : List NewFile). FilesStored news folder.files folder.files) (sym none) (stored_none folder.files folder.files refl);
    created = let few : length m.files ≡ 0 = ap length none in omega arith;
  }
  ends m (Malformed cut) none writes shows = record {
    answer = writes.0;
    output = writes.1;
    files = subst (λ (news : List NewFile). FilesStored news folder.files folder.files) (sym none) (stored_none folder.files folder.files refl);
    created = let few : length m.files ≡ 0 = ap length none in omega arith;
  }
  ends m Usage none writes shows = absurd shows
  ends m (Refused fault) none writes shows = absurd shows
  ends m NoMemory none writes shows = absurd shows

  leaves : (status : Status) → Shows unread status before now → LeavesAll status was is
  leaves Done shows = tt
  leaves (Malformed cut) shows = tt
  leaves ReadFault shows = tt
  leaves WriteFault shows = tt
  leaves Usage shows = absurd shows
  leaves (Refused fault) shows = absurd shows
  leaves NoMemory shows = absurd shows

  caused : (status : Status) → Shows unread status before now → IsCaused on_out unread status was is
  caused Done shows = tt
  caused (Malformed cut) shows = tt
  caused ReadFault shows = shows
  caused WriteFault shows = shows
  caused Usage shows = absurd shows
  caused (Refused fault) shows = absurd shows
  caused NoMemory shows = absurd shows

  kept : (status : Status) → Shows unread status before now → IfNoMemory status (CountsNoFault was is)
  kept Done shows = tt
  kept (Malformed cut) shows = tt
  kept ReadFault shows = tt
  kept WriteFault shows = tt
  kept Usage shows = absurd shows
  kept (Refused fault) shows = absurd shows
  kept NoMemory shows = absurd shows

  told_ends : (means : List ℕ → Meaning) (told : Option (List ℕ)) (status : Status) → ((bytes : List ℕ) → (means bytes).files ≡ [])
      → WritesFor means told status before.written now.written → Shows unread status before now
      → IfSome (option_map means told) (λ m. Ends m status was is)
  told_ends means None status none writes shows = tt
  told_ends means (Some bytes) status none writes shows = ends (means bytes) status (none bytes) writes shows

-- by what is meant of the file's bytes
pub printed_of : (unread : Type 0) (means : List ℕ → Meaning) (told : Option (List ℕ)) (status : Status) (before now : SinkSeen) → ((bytes : List ℕ) → (means bytes).files ≡ [])
    → WritesFor means told status before.written now.written → Shows unread status before now → Prints unread (option_map means told) status before now
printed_of unread means told status before now none writes shows = λ folder. record {
  ends = told_ends unread folder before now means told status none writes shows;
  untouched = leaves unread folder before now status shows;
  causes = caused unread folder before now status shows;
  kept = kept unread folder before now status shows;
}

-- a pass in front of all output ended early
pub pass_printed : (unread : Type 0) (means : List ℕ → Meaning) (told : Option (List ℕ)) (fault : PassFault) (out : SinkSeen) → ((bytes : List ℕ) → (means bytes).files ≡ [])
    → (fault ≡ pass.Read → unread) → Prints unread (option_map means told) (status_of_pass fault) out out
pass_printed unread means told pass.Read out none read = printed_of unread means told ReadFault out out none (unbegun told) (read refl)
  where
    unbegun : (known : Option (List ℕ)) → WritesFor means known ReadFault out.written out.written
    unbegun None = tt
    unbegun (Some bytes) = (0, gained_nothing out.written)
pass_printed unread means told pass.Memory out none read = unprinted unread (option_map means told) out

-- by what is meant in any case
pub printed : (unread : Type 0) (m : Meaning) (status : Status) (before now : SinkSeen) → m.files ≡ []
    → Writes m status before.written now.written → Shows unread status before now → Prints unread (Some m) status before now
printed unread m status before now none writes shows = λ folder. record {
  ends = ends unread folder before now m status none writes shows;
  untouched = leaves unread folder before now status shows;
  causes = caused unread folder before now status shows;
  kept = kept unread folder before now status shows;
}

-- by what is meant, where that is known
pub printed_known : (unread : Type 0) (means : Option Meaning) (status : Status) (before now : SinkSeen)
    → IfSome means (λ m. (m.files ≡ []) × Writes m status before.written now.written) → Shows unread status before now → Prints unread means status before now
printed_known unread means status before now writes shows = λ folder. record {
  ends = known_so (λ m. (m.files ≡ []) × Writes m status before.written now.written) (λ m. Ends m status (beside folder before) (beside folder now)) means
      (λ m written. ends unread folder before now m status written.0 written.1 shows) writes;
  untouched = leaves unread folder before now status shows;
  causes = caused unread folder before now status shows;
  kept = kept unread folder before now status shows;
}

one_piece : (piece : List ℕ) → text_of (piece ∷ []) ≡ piece
one_piece piece = append-nil piece

-- one piece was printed, or a prefix of it
pub piece_printed : (unread : Type 0) (piece put : List ℕ) (before now : SinkSeen) → Gained before.written now.written put → put ≡ piece
    → Prints unread (Some (prints (piece ∷ []) Done)) Done before now
piece_printed unread piece put before now gained is =
    printed unread (prints (piece ∷ []) Done) Done before now refl
    (refl, subst (λ (t : List ℕ). Gained before.written now.written t) (is ∙ sym (one_piece piece)) gained) tt

pub piece_unprinted : (unread : Type 0) (piece put : List ℕ) (before now : SinkSeen) → GainedPrefix before.written now.written put
    → Rose before.faults now.faults → put ≡ piece → Prints unread (Some (prints (piece ∷ []) Done)) WriteFault before now
piece_unprinted unread piece put before now prefix rose is =
    printed unread (prints (piece ∷ []) Done) WriteFault before now refl
    (subst (λ (t : List ℕ). GainedPrefix before.written now.written t) (is ∙ sym (one_piece piece)) prefix) rose

-- the end of a report of events shows its faults
pub end_shows : (unread : Type 0) (answer : Result End IoFault) (before now : SinkSeen) → (IsErrOf answer fault.Read → unread) → (IsErrOf answer fault.Write → Rose before.faults now.faults)
    → Shows unread (status_of_end answer) before now
end_shows unread (Ok end.Done) before now read write = tt
end_shows unread (Ok (end.Malformed cut)) before now read write = tt
end_shows unread (Err fault.Read) before now read write = read refl
end_shows unread (Err fault.Write) before now read write = write refl
