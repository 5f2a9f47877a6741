-- What a command that only prints leaves on the output, where there was memory.
use Rattle.std.specs.Prelude.{Option, Result, ◌≡◌, ℕ, List, take, IfSome, OnOk, OnErr, Bool, true}
use Rattle.trace_outside.specs.Causes.{HasCause, Rose}
use Rattle.trace_outside.specs.Writing.{Gained, GainedPrefix}
use Rattle.trace_outside.specs.Pieces.{text_of}
use Rattle.run_endings.specs.declared.status.Status.{Status}
use Rattle.run_endings.specs.declared.status.Status.TheVariants.{Done, Usage, Refused, Malformed, ReadFault, WriteFault, NoMemory}
use Rattle.run_endings.specs.Meaning.{Meaning}
use Rattle.run_endings.specs.Outside.{SinkSeen}

-- a text was written, and after a fault, which the output counted, a prefix of it
pub record WritesText {T E : Type 0} (text : List ℕ) (before now : SinkSeen) (result : Result T E) : Type 0 where
  pub gained : OnOk result (Gained before.written now.written text)
  pub prefix : OnErr result (GainedPrefix before.written now.written text)
  pub cause : HasCause before.faults now.faults result

-- all of it, after a fault of reading its first few pieces, after one of writing a prefix
abbrev pub Writes : Meaning → Status → Option (List ℕ) → Option (List ℕ) → Type 0
Writes m ReadFault old now = (count : ℕ) × Gained old now (text_of (take count m.pieces))
Writes m WriteFault old now = GainedPrefix old now (text_of m.pieces)
Writes m status old now = (status ≡ m.status) × Gained old now (text_of m.pieces)

abbrev pub WritesFor : (List ℕ → Meaning) → Option (List ℕ) → Status → Option (List ℕ) → Option (List ℕ) → Type 0
WritesFor means told status old now = IfSome told (λ bytes. Writes (means bytes) status old now)

-- where everything is gathered before the first byte, a fault of reading left the output as it was
abbrev pub GathersFirst : Bool → Status → SinkSeen → SinkSeen → Type 0
GathersFirst gathers status before now = gathers ≡ true → status ≡ ReadFault → now ≡ before

-- why the answer is a fault, and that it is none that leaves all as it was
abbrev pub Shows : Type 0 → Status → SinkSeen → SinkSeen → Type 0
Shows unread Done before now = Unit {0}
Shows unread (Malformed cut) before now = Unit {0}
Shows unread ReadFault before now = unread
Shows unread WriteFault before now = Rose before.faults now.faults
Shows unread Usage before now = ⊥
Shows unread (Refused fault) before now = ⊥
Shows unread NoMemory before now = ⊥
