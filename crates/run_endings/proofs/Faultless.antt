-- Where there was no memory, no fault was counted: by how a pass, a report or a cut ended.
use Rattle.std.proofs.Common.{◌≡◌, ℕ, Option, None, Some, IfNone, Result, Ok, Err}
use Rattle.subpage.specs.declared.cut_place.CutPlace.{CutPlace}
use Rattle.item_pass.specs.Faults.{KeptAt}
use Rattle.item_pass.specs.declared.passing.PassFault.{PassFault}
use Rattle.item_pass.specs.declared.passing.PassFault.TheVariants as pass
use Rattle.time_merge.specs.declared.ending.End.{End}
use Rattle.time_merge.specs.declared.ending.End.TheVariants as end
use Rattle.time_merge.specs.declared.ending.IoFault.{IoFault}
use Rattle.time_merge.specs.declared.ending.IoFault.TheVariants as fault
use Rattle.run_endings.specs.Ending.{IfNoMemory}
use Rattle.run_endings.specs.Ends.{status_of_cut, status_of_end, status_of_pass, status_or_memory}

-- a pass that found no memory left its file's count as it was
pub pass_kept : (before now : ℕ) (fault : PassFault) → KeptAt before now fault → IfNoMemory (status_of_pass fault) (now ≡ before)
pass_kept before now pass.Read kept = tt
pass_kept before now pass.Memory kept = kept

-- no end of lanes, and no cut, is want of memory
pub end_kept : (claim : Type 0) (answer : Result End IoFault) → IfNoMemory (status_of_end answer) claim
end_kept claim (Ok end.Done) = tt
end_kept claim (Ok (end.Malformed cut)) = tt
end_kept claim (Err fault.Read) = tt
end_kept claim (Err fault.Write) = tt

pub cut_kept : (claim : Type 0) (cut : Option CutPlace) → IfNoMemory (status_of_cut cut) claim
cut_kept claim None = tt
cut_kept claim (Some place) = tt

-- or there was none to begin
pub begun_kept : (claim : Type 0) (answer : Option (Result End IoFault)) → IfNone answer claim → IfNoMemory (status_or_memory answer) claim
begun_kept claim None kept = kept
begun_kept claim (Some last) kept = end_kept claim last
