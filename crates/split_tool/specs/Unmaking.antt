-- Why a new file is not made, and how a split ends then.
use Rattle.std.specs.Prelude.{◌≡◌, Result, Ok, Err}
use Rattle.time_merge.specs.declared.ending.End.{End}
use Rattle.time_merge.specs.declared.ending.End.TheVariants as code
use Rattle.time_merge.specs.declared.ending.IoFault.{IoFault}
use Rattle.split_tool.specs.declared.unmade.Unmade.{Unmade}
use Rattle.split_tool.specs.declared.unmade.Unmade.TheVariants as unmade

abbrev pub ending_of : Unmade → Result End IoFault
ending_of (unmade.Malformed cut) = Ok (code.Malformed cut)
ending_of (unmade.Fault fault) = Err fault

-- a file is made where all its items were packed
abbrev pub IsMadeBy : {T : Type 0} → Result End IoFault → Result T Unmade → Type 0
IsMadeBy packed (Ok done) = packed ≡ Ok code.Done
IsMadeBy packed (Err unmade) = packed ≡ ending_of unmade
