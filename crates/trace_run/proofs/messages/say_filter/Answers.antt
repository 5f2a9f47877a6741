use Rattle.trace_run.proofs.messages.say_filter.Goals as goal

pub returns : goal.returns
returns g c = rw (← c.format.ensures.text, ← c.as_bytes-word.ensures.value, ← c.format-2.ensures.text, ← c.as_bytes-place.ensures.value) c.say_parts.ensures
