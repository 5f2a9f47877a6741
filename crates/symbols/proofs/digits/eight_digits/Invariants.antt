use Rattle.symbols.proofs.Addresses.{ReadUpTo}
use Rattle.symbols.proofs.digits.eight_digits.Given as goal

abbrev pub invariant-loop-i : goal.invariant-loop-i
invariant-loop-i l = ReadUpTo l.text l.i l.number
