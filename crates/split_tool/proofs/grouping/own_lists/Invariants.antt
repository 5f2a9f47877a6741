use Rattle.std.proofs.Common.{take}
use Rattle.split_tool.specs.Work.{AreOwn}
use Rattle.split_tool.proofs.grouping.own_lists.Given as goal

abbrev pub invariant-loop-i : goal.invariant-loop-i
invariant-loop-i l = AreOwn l.layout (take l.i l.parts) l.lists.items
