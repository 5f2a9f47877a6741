use Rattle.trace_run.proofs.Said.{four_pushed}
use Rattle.trace_run.proofs.messages.malformed_text.Goals as goal

pub returns : goal.returns
returns c =
    four_pushed _ _ _ _ _ _ _ _ _ _ _ c.new-what.ensures c.push_str.ensures.bytes c.push_str-2.ensures.bytes c.push_str-3.ensures.bytes c.push_str-4.ensures.bytes
    c.format.ensures.text c.format-2.ensures.text
