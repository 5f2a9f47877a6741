-- Items of a sub-buffer that are passed over.
use Rattle.std.specs.Prelude.{◌≡◌, ℕ, ◌≤◌, List, length, drop}
use Rattle.trace_base.specs.declared.layout.Layout.{Layout}
use Rattle.subpage.specs.declared.mark.Mark.{Mark}
use Rattle.subpage.specs.Marks.{IsMark, items_from}

-- The second place stands after so many of the items at the first.
pub record IsPassedBy (layout : Layout) (page : List ℕ) (mark behind : Mark) (count : ℕ) : Type 0 where
  pub there : IsMark layout page behind
  pub left : items_from layout page behind ≡ drop count (items_from layout page mark)
  pub enough : count ≤ length (items_from layout page mark)
