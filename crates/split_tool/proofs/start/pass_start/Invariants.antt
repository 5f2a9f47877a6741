use Rattle.std.proofs.Common.{◌≡◌, ℕ, ◌<◌, get_or}
use Rattle.std.specs.Option.{IfSome}
use Rattle.std.specs.List.{All}
use Rattle.event_cursor.specs.Standing.{Stands}
use Rattle.split_passes.specs.ListSeen.{ListSeen}
use Rattle.split_tool.specs.Lists.{lanes_of}
use Rattle.split_tool.specs.Work.{HasOwnLayouts}
use Rattle.split_tool.proofs.Gone.{GoneTo}
use Rattle.split_tool.proofs.Passing.{StartsOn}
use Rattle.split_tool.proofs.start.pass_start.Given as goal

abbrev pub invariant-loop-i : goal.invariant-loop-i
invariant-loop-i g l = record {
  gone : GoneTo g.F.File l.i l.fn.file l.file l.fn.lists l.lists;
  started : IfSome (g.F.File.bytes l.fn.file) (λ file. All (Stands file) (lanes_of l.fn.lists)
      → (j : ℕ) (d : ListSeen) → j < l.i → StartsOn file l.plan.rules.start (get_or l.fn.lists j d) (get_or l.lists j d));
  own : (j : ℕ) (d : ListSeen) → j < l.i → HasOwnLayouts (get_or l.fn.lists j d);
  faults : g.F.File.faults l.file ≡ g.F.File.faults l.fn.file;
}
