use Rattle.std.proofs.Common.{◌≡◌, ℕ, ◌<◌, get_or}
use Rattle.std.specs.Option.{IfSome}
use Rattle.split_passes.specs.ListSeen.{ListSeen}
use Rattle.split_tool.specs.Going.{ListBegun}
use Rattle.split_tool.specs.Work.{HasOwnLayouts}
use Rattle.split_tool.proofs.Begun.{StaysOn}
use Rattle.split_tool.proofs.Gone.{GoneTo}
use Rattle.split_tool.proofs.lists.begin_lists.Given as goal

abbrev pub invariant-loop-i : goal.invariant-loop-i
invariant-loop-i g l = record {
  gone : GoneTo g.F.File l.i l.fn.file l.file l.fn.lists l.lists;
  stays : IfSome (g.F.File.bytes l.fn.file) (λ file. (j : ℕ) (d : ListSeen) → j < l.i → StaysOn file (get_or l.fn.lists j d) (get_or l.lists j d));
  begun : (j : ℕ) (d : ListSeen) → j < l.i → ListBegun (get_or l.lists j d);
  own : (j : ℕ) (d : ListSeen) → j < l.i → HasOwnLayouts (get_or l.fn.lists j d);
  faults : g.F.File.faults l.file ≡ g.F.File.faults l.fn.file;
}
