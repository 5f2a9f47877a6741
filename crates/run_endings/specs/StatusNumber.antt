-- The number with which the program ends for each answer. The numbers are this project's own choice, but for 0, which tells
-- success (C11, 7.22.4.4).
use Rattle.std.specs.Prelude.{ℕ}
use Rattle.run_endings.specs.declared.status.Status.{Status}
use Rattle.run_endings.specs.declared.status.Status.TheVariants.{Done, Usage, Refused, Malformed, ReadFault, WriteFault, NoMemory}

abbrev pub status_number : Status → ℕ
status_number Done = 0
status_number Usage = 1
status_number (Refused fault) = 2
status_number (Malformed cut) = 3
status_number ReadFault = 4
status_number WriteFault = 5
status_number NoMemory = 6
