use Rattle.std.proofs.Common.{◌≡◌, ◌≤◌, ◌-◌, length}
use Rattle.fmt_lexer.specs.Reading.{tokens_from}
use Rattle.fmt_lexer.proofs.Rows.{rest_of}
use Rattle.fmt_lexer.proofs.Loop.{with_front}
use Rattle.fmt_lexer.proofs.lexer.row.Given as goal

-- the tokens so far and those of the rest are all
abbrev pub invariant-loop-at : goal.invariant-loop-at
invariant-loop-at l = (with_front l.tokens.items (rest_of l.text l.at) ≡ tokens_from 0 0 l.text) × (l.at ≤ length l.text)

abbrev pub decreases-loop-at : goal.decreases-loop-at
decreases-loop-at l = length l.text - l.at
