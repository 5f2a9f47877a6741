use Rattle.std.proofs.Common.{◌≡◌, ◌≤◌, drop}
use Rattle.std.specs.Prelude.{if◌then◌else◌}
use Rattle.std.specs.Fmt.{digits}
use Rattle.trace_base.proofs.DigitLemmas.{left_digits}
use Rattle.trace_base.proofs.digits.write_digits.Given as goal

abbrev pub invariant-loop-at : goal.invariant-loop-at
invariant-loop-at l =
    (l.at ≤ 64) × (left_digits l.at (if l.octal then 8 else 16) l.upper l.left (drop l.at l.buffer) ≡ digits (if l.octal then 8 else 16) l.upper l.fn.n)

abbrev pub decreases-loop-at : goal.decreases-loop-at
decreases-loop-at l = l.at
