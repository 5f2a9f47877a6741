use Rattle.std.proofs.Common.{◌∙◌}
use Rattle.trace_run.specs.Messages.{malformed_text}
use Rattle.trace_run.proofs.Said.{said_of}
use Rattle.trace_run.proofs.messages.say.Goals as goal

pub returns-in-Refused : goal.returns-in-Refused
returns-in-Refused g c =
    rw (c.in-Refused.is, ← c.as_bytes-input.ensures.value, ← c.refused_text.ensures, ← c.deref.ensures.0, ← c.as_bytes.ensures.value) c.say_of.ensures

pub returns-in-Malformed : goal.returns-in-Malformed
returns-in-Malformed g c =
    rw c.in-Malformed.is
    (said_of c.args.input.now _ (malformed_text c.in-Malformed.cut) _ _ _ c.as_bytes-input.ensures.value
    (c.as_bytes-in-Malformed.ensures.value ∙ c.deref-in-Malformed.ensures.0 ∙ c.malformed_text.ensures) c.say_of-in-Malformed.ensures)

pub returns-in-ReadFault : goal.returns-in-ReadFault
returns-in-ReadFault g c = rw (c.in-ReadFault.is, ← c.as_bytes-input.ensures.value) c.say_parts.ensures

pub returns-in-WriteFault : goal.returns-in-WriteFault
returns-in-WriteFault g c = rw c.in-WriteFault.is c.say_parts-in-WriteFault.ensures

pub returns-in-NoMemory : goal.returns-in-NoMemory
returns-in-NoMemory g c = rw c.in-NoMemory.is c.say_parts-in-NoMemory.ensures
