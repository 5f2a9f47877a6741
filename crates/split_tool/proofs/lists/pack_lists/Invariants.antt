use Rattle.std.proofs.Common.{◌≡◌, ℕ, ◌<◌, ◌≤◌, List, length, get_or, take}
use Rattle.std.specs.Option.{IfSome}
use Rattle.std.specs.List.{All}
use Rattle.trace_outside.specs.Causes.{raised}
use Rattle.trace_outside.specs.Keeping.{KeepsFile, KeepsSink}
use Rattle.subpage.specs.Arrangement.{Keyed}
use Rattle.event_cursor.specs.Standing.{Stands}
use Rattle.split_passes.specs.ListSeen.{ListSeen}
use Rattle.split_passes.specs.Packs.{GainsSome}
use Rattle.split_tool.specs.Going.{KeepsList}
use Rattle.split_tool.specs.Lists.{lanes_of}
use Rattle.split_tool.specs.Made.{AreFrontsOf}
use Rattle.split_tool.specs.Reads.{lists_packing}
use Rattle.split_tool.proofs.Packing.{ListsPackedTo, SameNumbers}
use Rattle.split_tool.proofs.lists.pack_lists.Given as goal

abbrev pub invariant-loop-i : goal.invariant-loop-i
invariant-loop-i g l = record {
  long : length l.lists ≡ length l.fn.lists;
  kept : (j : ℕ) (d : ListSeen) → KeepsList (get_or l.fn.lists j d) (get_or l.lists j d);
  others : (j : ℕ) (d : ListSeen) → l.i ≤ j → get_or l.lists j d ≡ get_or l.fn.lists j d;
  whole : length l.page ≡ l.plan.header.now.layout.page;
  packed : IfSome (g.F.File.bytes l.fn.file) (λ file. All (Stands file) (lanes_of l.fn.lists)
      → (taken : List Keyed) → AreFrontsOf file l.fn.lists taken
      → ListsPackedTo l.plan.header.now.layout file l.i l.fn.lists l.lists taken (g.O.Sink.written l.fn.out) (g.O.Sink.written l.out));
  gains : GainsSome (g.O.Sink.written l.fn.out) (g.O.Sink.written l.out);
  numbers : (j : ℕ) (d : ListSeen) → j < l.i → SameNumbers (get_or l.fn.lists j d) (get_or l.lists j d);
  reads : g.F.File.reads l.file ≤ raised (g.F.File.reads l.fn.file) (lists_packing (g.F.File.size l.fn.file) (take l.i l.fn.lists));
  keeps_out : KeepsSink g.O.Sink l.fn.out l.out;
  keeps : KeepsFile g.F.File l.fn.file l.file;
}
