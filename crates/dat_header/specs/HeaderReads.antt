-- What a call that reads a header does to its file.
use Rattle.std.specs.Prelude.{◌≤◌, Result, IfOk, IsErrOf}
use Rattle.trace_outside.specs.Causes.{Rose, raised}
use Rattle.trace_outside.specs.Seen.{FileSeen}
use Rattle.dat_options.specs.Answer.{KeptUnlessRead}
use Rattle.dat_options.specs.declared.fault.OpenFault.{OpenFault}
use Rattle.dat_options.specs.declared.fault.OpenFault.TheVariants.{Read}
use Rattle.dat_header.specs.declared.header.Header.{Header}

-- a failed read, and nothing else, raised the count of faults; no more was read than the header, which ends inside the file,
-- and where there is none no more than the file
pub record HeaderReads (before now : FileSeen) (result : Result Header OpenFault) : Type 0 where
  pub cause : IsErrOf result Read → Rose before.faults now.faults
  pub kept : KeptUnlessRead before.faults now.faults result
  pub reads : IfOk result (λ header. now.reads ≤ raised before.reads header.end)
  pub most : now.reads ≤ raised before.reads before.size
  pub end_inside : IfOk result (λ header. header.end ≤ before.size)
