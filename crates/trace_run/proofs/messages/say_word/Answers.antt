use Rattle.trace_run.proofs.messages.say_word.Goals as goal

pub returns : goal.returns
returns g c = rw (← c.format.ensures.text, ← c.as_bytes-word.ensures.value, ← c.text.ensures, ← c.as_bytes.ensures.value) c.say_parts.ensures
