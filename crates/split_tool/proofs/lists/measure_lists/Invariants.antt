use Rattle.std.proofs.Common.{◌≡◌, ℕ, ◌<◌, get_or}
use Rattle.std.specs.Option.{IfSome}
use Rattle.std.specs.List.{All}
use Rattle.event_cursor.specs.Standing.{Stands}
use Rattle.split_passes.specs.ListSeen.{ListSeen}
use Rattle.split_tool.specs.Going.{ListBegun, ListDone}
use Rattle.split_tool.specs.Lists.{lanes_of}
use Rattle.split_tool.proofs.Gone.{GoneTo}
use Rattle.split_tool.proofs.Measuring.{MeasuredTo}
use Rattle.split_tool.proofs.lists.measure_lists.Given as goal

abbrev pub invariant-loop-i : goal.invariant-loop-i
invariant-loop-i g l = record {
  gone : GoneTo g.F.File l.i l.fn.file l.file l.fn.lists l.lists;
  measured : IfSome (g.F.File.bytes l.fn.file) (λ file. All (Stands file) (lanes_of l.fn.lists) → All ListBegun l.fn.lists
      → MeasuredTo file l.plan.rules l.i l.fn.lists l.lists l.ends);
  done : (j : ℕ) (d : ListSeen) → j < l.i → ListDone (get_or l.fn.lists j d) (get_or l.lists j d);
  faults : g.F.File.faults l.file ≡ g.F.File.faults l.fn.file;
}
