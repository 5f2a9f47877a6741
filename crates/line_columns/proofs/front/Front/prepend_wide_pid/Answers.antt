use Rattle.std.proofs.Common.{ℕ, List, ◌++◌, ap, length, length-append, ◌∙◌, arith}
use Rattle.std.specs.Fmt.{decimal}
use Rattle.line_columns.proofs.Lengths.{cpu_short, no_spaces}
use Rattle.line_columns.proofs.front.Front.prepend_wide_pid.Goals as goal

pub returns-clause-longer : goal.returns-clause-longer
returns-clause-longer c = omega (arith, ap length c.prepend_digits.ensures.value, length-append (decimal c.args.pid) c.args.self.now, cpu_short c.args.pid c.ranges.pid.fits)

pub returns-clause-value : goal.returns-clause-value
returns-clause-value c = c.prepend_digits.ensures.value ∙ ap (λ (word : List ℕ). word ++ c.args.self.now) (no_spaces c.args.pid c.requires.wide c.ranges.pid.fits)
