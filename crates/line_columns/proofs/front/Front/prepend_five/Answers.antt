use Rattle.std.proofs.Common.{◌++◌, ◌∙◌, ℕ, List, ap, arith}
use Rattle.std.specs.Fmt.{decimal}
use Rattle.std.proofs.lemmas.Fmt.{length-decimal-le}
use Rattle.line_columns.proofs.Rooms.{at_right}
use Rattle.line_columns.proofs.front.Front.prepend_five.Goals as goal

pub write_digits-requires : goal.write_digits-requires
write_digits-requires c = (length-decimal-le 5 c.args.n (omega arith) (omega (arith, c.requires.small)) (omega (arith, c.requires.small)), omega arith)

pub returns-clause-value : goal.returns-clause-value
returns-clause-value c =
    c.prepend_text.ensures.value
    ∙ ap (λ (l : List ℕ). l ++ c.args.self.now) (at_right 5 c.write_digits.result c.write_digits.new.buf (decimal c.args.n) c.write_digits.ensures.start c.write_digits.ensures.before c.write_digits.ensures.written)
