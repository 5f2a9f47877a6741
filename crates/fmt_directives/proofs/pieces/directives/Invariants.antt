use Rattle.std.proofs.Common.{◌≡◌, ◌≤◌, ◌-◌, length}
use Rattle.fmt_directives.specs.Reading.{directives_of}
use Rattle.fmt_directives.specs.Directives.{SpelledTo}
use Rattle.fmt_directives.proofs.Rows.{rest_of, with_front}
use Rattle.fmt_directives.proofs.pieces.directives.Given as goal

-- the directives so far and those of the rest are all
abbrev pub invariant-loop-at : goal.invariant-loop-at
invariant-loop-at l = (with_front l.directives.items (rest_of l.text l.at) ≡ directives_of l.text) × (l.at ≤ length l.text) × SpelledTo l.text 0 l.directives.items l.at

abbrev pub decreases-loop-at : goal.decreases-loop-at
decreases-loop-at l = length l.text - l.at
