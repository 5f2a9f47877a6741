use Rattle.std.proofs.Common.{◌≡◌, drop}
use Rattle.fmt_lexer.specs.Reading.{text_len, text_from}
use Rattle.fmt_lexer.proofs.Closing.{shifted}
use Rattle.fmt_lexer.proofs.quoted.text_len.Given as goal

-- what is left closes where all does
abbrev pub invariant-loop-i : goal.invariant-loop-i
invariant-loop-i l = shifted l.i (text_from l.escaped (drop l.i l.after)) ≡ text_len l.after
