use Rattle.tournament_tree.proofs.Scanning.{IsLeastSoFar}
use Rattle.tournament_tree.proofs.marks.least_mark.Given as goal

abbrev pub invariant-loop-i : goal.invariant-loop-i
invariant-loop-i l = IsLeastSoFar l.keys l.but l.i l.least
