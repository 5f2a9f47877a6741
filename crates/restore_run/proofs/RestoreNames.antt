-- The file that a restore names.
use Rattle.std.proofs.Common.{◌≡◌, ◌<◌, ◌≤◌, ◌∙◌, ℕ, suc, List, ◌∷◌, length, get_or, map, Result, Ok, Err, refl, sym, ap, subst, arith}
use Rattle.std.proofs.lemmas.List.{get_or-map}
use Rattle.trace_outside.specs.Open.{IsUnread}
use Rattle.restore_tool.specs.declared.named.RestoreFault.{RestoreFault}
use Rattle.restore_tool.specs.declared.named.RestoreFault.TheVariants as code
use Rattle.restore_tool.specs.Failing.{IfRead, place_of}
use Rattle.trace_args.specs.Command.{RestoreData}
use Rattle.run_endings.specs.declared.status.Status.{Status}
use Rattle.restore_run.specs.Naming.{IsNameAt, IsNameOf, IsRestoreNamed, restore_inputs}
use Rattle.run_endings.specs.Outside.{FolderSeen}
use Rattle.restore_run.specs.Restore.{status_of_restore}

-- the partial file
pub input_at : (words : RestoreData) → IsNameAt words 0 words.input
input_at words = record { one = (0, omega arith, refl); there = λ inside d. refl }

-- a data file has its place after the partial file
pub data_at : {N : Type 0} (name_of : N → List ℕ) (input : List ℕ) (names : List N) (i : ℕ) (name : N) → i < length names → name ≡ get_or names i name → (d : List ℕ) → get_or (input ∷ map name_of names) (suc i) d ≡ name_of name
data_at name_of input names i name lt is d = get_or-map name_of names i name d lt ∙ ap name_of (sym is)

-- after the last of them the partial file may be named
pub past_data : (words : RestoreData) (place : ℕ) → length words.files ≤ place → IsNameAt words (suc place) words.input
past_data words place past = record { one = (input_at words).one; there = λ inside d. absurd (omega (arith, inside, past)) }

-- the file that a fault tells is the one that is named
pub restore_named : (words : RestoreData) (result : Result Unit RestoreFault) (status : Status) (name : List ℕ) (before now : FolderSeen) → status ≡ status_of_restore result
    → IfRead result (λ source. IsUnread before.files (restore_inputs words) before.counts.misses now.counts.misses (place_of source))
    → IsNameOf words result name → IsRestoreNamed words status before now name
restore_named words result status name before now told unread named =
    subst (λ (s : Status). IsRestoreNamed words s before now name) (sym told) (by_result result unread named)
  where
    by_result : (a : Result Unit RestoreFault) → IfRead a (λ source. IsUnread before.files (restore_inputs words) before.counts.misses now.counts.misses (place_of source))
        → IsNameOf words a name → IsRestoreNamed words (status_of_restore a) before now name
    by_result (Ok done) unread named = named
    by_result (Err (code.Refused fault)) unread named = named
    by_result (Err (code.Read source)) unread named = record { place = place_of source; name_is = named; unread = unread }
    by_result (Err code.Write) unread named = named
    by_result (Err code.NoMemory) unread named = named
