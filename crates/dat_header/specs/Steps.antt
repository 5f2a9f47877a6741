-- What a step of reading does to the file, and what it answers.
use Rattle.std.specs.Prelude.{◌≡◌, ◌≤◌, ◌-◌, ℕ, min, List, length, Result, Err, IfOk, IfErr}
use Rattle.trace_outside.specs.Causes.{Rose, raised}
use Rattle.trace_outside.specs.Reading.{GivesBytesAt}
use Rattle.dat_options.specs.Answer.{AnswersTold, KeptUnlessRead}
use Rattle.dat_options.specs.declared.fault.OpenFault.{OpenFault}
use Rattle.dat_options.specs.declared.fault.OpenFault.TheVariants.{Read}
use Rattle.trace_outside.specs.declared.outside.File as file
use Rattle.trace_outside.specs.Seen.{FileSeen, file_seen}
use Rattle.dat_header.specs.Found.{Found}

-- a step from a place on answered what is expected of the file's bytes, and read at most up to the place that it answers, or
-- whatever it answered at most up to the file's end
pub record Steps {V : Type 0} (next : V → ℕ) (expected : List ℕ → Result V OpenFault) (at : ℕ) (before now : FileSeen) (result : Result V OpenFault) : Type 0 where
  pub answer : AnswersTold expected before.bytes result
  pub bytes : now.bytes ≡ before.bytes
  pub size : now.size ≡ before.size
  pub later : before.faults ≤ now.faults
  pub cause : result ≡ Err Read → Rose before.faults now.faults
  pub kept : KeptUnlessRead before.faults now.faults result
  pub reads : IfOk result (λ value. now.reads ≤ raised before.reads (next value - at))
  pub most : now.reads ≤ raised before.reads (before.size - at)
  pub forward : IfOk result (λ value. at ≤ next value)
  pub inside : IfOk result (λ value. next value ≤ before.size)

-- a step from a place on that finds a value there, and the place after it
abbrev pub Finds : {V F : Type 0} → (List ℕ → ℕ → Found V) → ℕ → file.Ghosts F → F → F → Found V → Type 0
Finds value_at at f before now result = Steps (λ found. found.1) (λ bytes. value_at bytes at) at (file_seen f before) (file_seen f now) result

-- a step from a place on of which only the place after counts
abbrev pub Passes : {F : Type 0} → (List ℕ → ℕ → Result ℕ OpenFault) → ℕ → file.Ghosts F → F → F → Result ℕ OpenFault → Type 0
Passes word_at at f before now result = Steps (λ next. next) (λ bytes. word_at bytes at) at (file_seen f before) (file_seen f now) result

-- as many of the buffer's bytes were read as the file has from there on
pub record GivesThere (at : ℕ) (buffer : List ℕ) (before now : FileSeen) (result : Result ℕ OpenFault) : Type 0 where
  pub given : IfOk result (λ count. GivesBytesAt before.bytes at count buffer)
  pub counted : IfOk result (λ count. count ≡ min (length buffer) (before.size - at))
  pub fault : IfErr result (λ fault. fault ≡ Read)
  pub bytes : now.bytes ≡ before.bytes
  pub size : now.size ≡ before.size
  pub later : before.faults ≤ now.faults
  pub cause : result ≡ Err Read → Rose before.faults now.faults
  pub kept : KeptUnlessRead before.faults now.faults result
  pub reads : IfOk result (λ count. now.reads ≤ raised before.reads count)
  pub most : now.reads ≤ raised before.reads (before.size - at)
