use Rattle.std.proofs.Common.{length}
use Rattle.fmt_literal.specs.Escape.{meant}
use Rattle.fmt_literal.proofs.Pushing.{Grows}
use Rattle.fmt_literal.proofs.escape.push_items.Given as goal

-- The first of what the bytes stand for was appended to the text, and what the bytes after it stand for is left.
abbrev pub invariant-loop-first : goal.invariant-loop-first
invariant-loop-first l = Grows l.fn.into.items l.into.items (meant 0 l.rest) (meant 0 l.fn.bytes)

abbrev pub decreases-loop-first : goal.decreases-loop-first
decreases-loop-first l = length l.rest
