use Rattle.subpage.specs.Marks.{IsMark}
use Rattle.lane_tests.proofs.tests.sub_pages.leads_over.Given as goal

abbrev pub invariant-loop-item : goal.invariant-loop-item
invariant-loop-item l = IsMark l.layout l.bytes l.mark
