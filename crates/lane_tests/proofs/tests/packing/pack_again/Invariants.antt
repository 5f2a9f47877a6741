use Rattle.std.proofs.Common.{◌≡◌, All}
use Rattle.page_write.specs.Fill.{IsFill}
use Rattle.page_write.specs.PageBytes.{IsPackable}
use Rattle.lane_tests.proofs.tests.packing.pack_again.Given as goal

abbrev pub invariant-loop-item : goal.invariant-loop-item
invariant-loop-item l = record {
  layout : l.packer.layout ≡ l.layout;
  same : IsFill l.layout l.room l.packer.held;
  left : All (IsPackable l.layout) l.item-iterator;
}
