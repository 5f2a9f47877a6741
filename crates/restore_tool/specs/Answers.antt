-- What the result of a restoring says of the outside.
use Rattle.std.specs.Prelude.{Option, Result, Ok, Err, ◌≡◌, ◌≤◌, ℕ}
use Rattle.trace_outside.specs.declared.counts.Counts.{Counts}
use Rattle.trace_outside.specs.Causes.{raised}
use Rattle.trace_outside.specs.Names.{NamedFiles}
use Rattle.dat_options.specs.declared.fault.OpenFault.{OpenFault}
use Rattle.dat_options.specs.declared.fault.OpenFault.TheVariants.{Read, Memory}
use Rattle.dat_header.specs.Header.{IsRefusal}
use Rattle.restore_tool.specs.declared.copying.DataFault.{DataFault}
use Rattle.restore_tool.specs.declared.copying.DataFault.TheVariants as data_code
use Rattle.restore_tool.specs.declared.named.RestoreFault.{RestoreFault}
use Rattle.restore_tool.specs.declared.named.RestoreFault.TheVariants as code
use Rattle.restore_tool.specs.declared.named.Source.TheVariants as source_code

-- what comes of a fault of the work on files that are open
abbrev pub fault_of_data : DataFault → RestoreFault
fault_of_data (data_code.Read file) = code.Read (source_code.File file)
fault_of_data data_code.Write = code.Write

-- what comes of a partial file whose header could not be read
abbrev pub fault_of_open : OpenFault → RestoreFault
fault_of_open Read = code.Read source_code.Partial
fault_of_open Memory = code.NoMemory
fault_of_open fault = code.Refused fault

-- a fault of reading or of writing is told only with its cause, and a refusal is one of the file's bytes
abbrev pub Causes : Result Unit RestoreFault → Type 0 → Type 0 → Type 0
Causes (Ok done) reading writing = Unit {0}
Causes (Err (code.Refused fault)) reading writing = IsRefusal fault
Causes (Err (code.Read source)) reading writing = reading
Causes (Err code.Write) reading writing = writing
Causes (Err code.NoMemory) reading writing = Unit {0}

-- one file is created, and none before all memory is there and all files are open
abbrev pub Created : Result Unit RestoreFault → ℕ → ℕ → Type 0
Created (Ok done) before now = now ≡ raised before 1
Created (Err (code.Refused fault)) before now = now ≡ before
Created (Err (code.Read source)) before now = now ≤ raised before 1
Created (Err code.Write) before now = now ≤ raised before 1
Created (Err code.NoMemory) before now = now ≡ before

-- no name changed, unless the new file was finished or finishing it failed
abbrev pub KeepsFiles : Result Unit RestoreFault → Option NamedFiles → Option NamedFiles → Type 0
KeepsFiles (Ok done) old new = Unit {0}
KeepsFiles (Err (code.Refused fault)) old new = new ≡ old
KeepsFiles (Err (code.Read source)) old new = new ≡ old
KeepsFiles (Err code.Write) old new = Unit {0}
KeepsFiles (Err code.NoMemory) old new = new ≡ old

-- this holds where there was no memory
abbrev pub IfNoMemory : Result Unit RestoreFault → Type 0 → Type 0
IfNoMemory (Err code.NoMemory) claim = claim
IfNoMemory result claim = Unit {0}

-- this holds where the new file was finished, or could not be made
abbrev pub IfMade : Result Unit RestoreFault → Type 0 → Type 0
IfMade (Ok done) claim = claim
IfMade (Err code.Write) claim = claim
IfMade (Err fault) claim = Unit {0}

-- so many files were opened and are open still, no count of faults fell, and nothing is counted yet of what was read
pub record LeavesOpen (count : ℕ) (before now : Counts) : Type 0 where
  pub reading : before.reading ≤ now.reading
  pub writing : before.writing ≤ now.writing
  pub unfinished : before.unfinished ≤ now.unfinished
  pub opened : now.opened ≡ raised before.opened count
  pub closed : now.closed ≡ before.closed
  pub bytes : now.bytes ≡ before.bytes

-- as many files were closed as were opened, and no more than so many, and no count of faults fell
pub record ClosesAll (most : ℕ) (before now : Counts) : Type 0 where
  pub reading : before.reading ≤ now.reading
  pub writing : before.writing ≤ now.writing
  pub unfinished : before.unfinished ≤ now.unfinished
  pub count : ℕ
  pub few : count ≤ most
  pub opened : now.opened ≡ raised before.opened count
  pub closed : now.closed ≡ raised before.closed count
