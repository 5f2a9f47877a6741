-- The answer of a run for the end that its lanes come to, for a pass over them that ended early, and for a cut.
use Rattle.std.specs.Prelude.{Option, None, Some, Bool, Result, Ok, Err, is_ok}
use Rattle.subpage.specs.declared.cut_place.CutPlace.{CutPlace}
use Rattle.time_merge.specs.declared.ending.End.{End}
use Rattle.time_merge.specs.declared.ending.End.TheVariants as end
use Rattle.time_merge.specs.declared.ending.IoFault.{IoFault}
use Rattle.time_merge.specs.declared.ending.IoFault.TheVariants as fault
use Rattle.item_pass.specs.declared.passing.PassFault.{PassFault}
use Rattle.item_pass.specs.declared.passing.PassFault.TheVariants as pass
use Rattle.run_endings.specs.declared.status.Status.{Status}
use Rattle.run_endings.specs.declared.status.Status.TheVariants.{Done, Malformed, ReadFault, WriteFault, NoMemory}

-- for an end, or for a fault in its place
abbrev pub status_of_end : Result End IoFault → Status
status_of_end (Ok end.Done) = Done
status_of_end (Ok (end.Malformed cut)) = Malformed cut
status_of_end (Err fault.Read) = ReadFault
status_of_end (Err fault.Write) = WriteFault

-- or for no memory to begin
abbrev pub status_or_memory : Option (Result End IoFault) → Status
status_or_memory None = NoMemory
status_or_memory (Some last) = status_of_end last

abbrev pub status_of_pass : PassFault → Status
status_of_pass pass.Read = ReadFault
status_of_pass pass.Memory = NoMemory

-- by the malformed sub-buffer before which the items end, if there is one
abbrev pub status_of_cut : Option CutPlace → Status
status_of_cut None = Done
status_of_cut (Some place) = Malformed place

-- all that the lanes have up to their cut was used up
abbrev pub is_whole : Result End IoFault → Bool
is_whole end = is_ok end
