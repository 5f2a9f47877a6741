use Rattle.std.proofs.Common.{◌∙◌, ℕ, List, ap, sym}
use Rattle.fmt_literal.specs.Quoted.{text_of}
use Rattle.fmt_literal.specs.Escape.{meant}
use Rattle.fmt_literal.proofs.Meant.{meant_plain}
use Rattle.fmt_literal.proofs.quoted.plain_text.Goals as goal

pub returns-then-is_plain : goal.returns-then-is_plain
unfolding text_of
returns-then-is_plain c = sym (meant_plain c.inside-bytes.result.now (sym c.if-is_plain.ensures)) ∙ ap (λ (bytes : List ℕ). meant 0 bytes) c.inside-bytes.ensures
