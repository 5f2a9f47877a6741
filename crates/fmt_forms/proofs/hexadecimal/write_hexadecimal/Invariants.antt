use Rattle.std.proofs.Common.{◌≡◌, ◌+◌, ◌≤◌, ◌++◌, length, drop, false}
use Rattle.std.specs.Fmt.{digits}
use Rattle.fmt_forms.proofs.hexadecimal.write_hexadecimal.Given as goal

abbrev pub invariant-loop-left : goal.invariant-loop-left
invariant-loop-left l =
    (length (digits 16 false l.left) ≤ l.at) × (l.at ≤ l.end) × (l.at + length (digits 16 false l.n) ≡ l.end + length (digits 16 false l.left))
    × (digits 16 false l.left ++ drop l.at l.room ≡ digits 16 false l.n ++ drop l.end l.fn.room)

abbrev pub decreases-loop-left : goal.decreases-loop-left
decreases-loop-left l = l.left
