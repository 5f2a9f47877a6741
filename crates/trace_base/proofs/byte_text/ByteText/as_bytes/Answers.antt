use Rattle.std.proofs.Common.{sym, ap, ◌∙◌}
use Rattle.trace_base.specs.ByteTexts.{text_bytes}
use Rattle.trace_base.proofs.byte_text.ByteText.as_bytes.Goals as goal

pub returns-in-Few : goal.returns-in-Few
returns-in-Few c = c.as_bytes.ensures ∙ sym (ap text_bytes c.in-Few.is) ∙ c.self.view_is

pub returns-in-Many : goal.returns-in-Many
returns-in-Many c = c.as_slice.ensures.value ∙ sym (ap text_bytes c.in-Many.is) ∙ c.self.view_is
