use Rattle.trace_run.proofs.messages.say_usage.Goals as goal

pub returns-in-Filter : goal.returns-in-Filter
returns-in-Filter g c = rw c.in-Filter.is c.say_filter.ensures
