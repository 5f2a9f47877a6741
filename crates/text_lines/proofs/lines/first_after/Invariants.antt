use Rattle.std.proofs.Common.{◌≡◌}
use Rattle.text_lines.specs.Lines.{lines_of, lines_left, first_after}
use Rattle.text_lines.proofs.Splits.{lines_long}
use Rattle.text_lines.proofs.lines.first_after.Given as goal

abbrev pub invariant-loop-left : goal.invariant-loop-left
invariant-loop-left l = first_after l.word (lines_left l.left) ≡ first_after l.word (lines_of l.text)

abbrev pub decreases-loop-left : goal.decreases-loop-left
decreases-loop-left l = lines_long l.left
