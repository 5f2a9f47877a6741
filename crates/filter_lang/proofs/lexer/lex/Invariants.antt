use Rattle.std.proofs.Common.{◌≤◌, ◌-◌, length}
use Rattle.filter_lang.proofs.Continues.{Continues}
use Rattle.filter_lang.proofs.lexer.lex.Given as goal

-- with the tokens of the rest, the tokens so far are all of the text's
abbrev pub invariant-loop-at : goal.invariant-loop-at
invariant-loop-at l = Continues l.text l.colon_before l.at l.tokens.items × (l.at ≤ length l.text)

abbrev pub decreases-loop-at : goal.decreases-loop-at
decreases-loop-at l = length l.text - l.at
