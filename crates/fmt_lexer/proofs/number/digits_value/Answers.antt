use Rattle.std.proofs.Common.{ℕ, ap, ◌∙◌}
use Rattle.byte_classes.specs.Digits.{number_written}
use Rattle.fmt_lexer.specs.Number.{radix_of}
use Rattle.fmt_lexer.proofs.Digits.{written_is}
use Rattle.fmt_lexer.proofs.number.digits_value.Goals as goal

pub returns : goal.returns
returns c = written_is (radix_of c.args.base) c.args.digits.now c.number_written.result c.requires (c.number_written.ensures ∙ ap (λ (radix : ℕ). number_written radix c.args.digits.now) c.radix.ensures.value)
