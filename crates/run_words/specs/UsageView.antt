-- Why it is not known what the words ask for.
use Rattle.std.specs.Prelude.{◌≡◌, ℕ, Result, Err}
use Rattle.filter_lang.specs.declared.fault.FilterFault.{FilterFault}
use Rattle.filter_lang.specs.declared.fault.FilterFault.TheVariants as code
use Rattle.run_words.specs.declared.usage.UsageFault.{UsageFault}
use Rattle.run_words.specs.declared.usage.UsageFault.TheVariants.{Filter}
use Rattle.run_words.specs.declared.usage.AskFault.{AskFault}
use Rattle.run_words.specs.declared.usage.AskFault.TheVariants.{Usage, Memory}

-- it is the fault of this reading, or there was no memory
abbrev pub IsFaultOf : {A : Type 0} → Result A UsageFault → AskFault → Type 0
IsFaultOf read (Usage fault) = read ≡ Err fault
IsFaultOf read Memory = Unit {0}

-- the fault of the filter of a word
abbrev pub ask_fault : ℕ → FilterFault → AskFault
ask_fault word (code.At place) = Usage (Filter word place)
ask_fault word code.Memory = Memory
