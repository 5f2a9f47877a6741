use Rattle.std.proofs.Common.{◌≡◌, ℕ, length, take}
use Rattle.std.specs.List.{All}
use Rattle.time_merge.specs.LaneRows.{parts_of}
use Rattle.trace_base.specs.declared.layout.Layout.{Layout}
use Rattle.time_merge.specs.Unused.{IsUnused}
use Rattle.time_merge.proofs.setting.set_lanes.Given as goal

abbrev pub invariant-loop-i : goal.invariant-loop-i
invariant-loop-i l = record {
  same : length l.lanes ≡ length l.parts;
  parts : parts_of (take l.i l.lanes) ≡ take l.i l.parts;
  unused : (layout : Layout) (room : ℕ) → All (IsUnused layout room) l.initial.lanes → All (IsUnused layout room) l.lanes;
}
