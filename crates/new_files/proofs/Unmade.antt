-- A file that could not be finished.
use Rattle.std.proofs.Common.{◌≡◌, ℕ, List, inr, subst, arith, Option}
use Rattle.trace_outside.specs.Causes.{raised}
use Rattle.trace_outside.specs.Folders.{KeepsOthers}
use Rattle.trace_outside.specs.Names.{NamedFiles}
use Rattle.new_files.specs.Stored.{IsUnmade}

-- finishing a file failed
pub unmade_finish : (first before now : ℕ) (name own : List ℕ) (old mid new : Option NamedFiles) → mid ≡ old → own ≡ name → before ≡ first → now ≡ raised before 1 → KeepsOthers mid new own → IsUnmade first now name old new
unmade_finish first before now name own old mid new files named same one keeps =
    inr (omega (arith, same, one), subst (λ (m : Option NamedFiles). KeepsOthers m new name) files (subst (KeepsOthers mid new) named keeps))
