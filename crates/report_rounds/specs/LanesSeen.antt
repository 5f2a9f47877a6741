-- What the lanes of a report in rounds are to their callers.
use Rattle.std.specs.Prelude.{List}
use Rattle.trace_base.specs.declared.layout.Layout.{Layout}
use Rattle.page_pool.specs.declared.lane.Lane.{Lane}

-- the layout of their sub-buffers, and all of them
pub record LanesSeen : Type 0 where
  pub layout : Layout
  pub all : List Lane
