-- What lanes are to their callers.
use Rattle.std.specs.Prelude.{List}
use Rattle.trace_base.specs.declared.layout.Layout.{Layout}
use Rattle.page_pool.specs.declared.lane.Lane.{Lane}
use Rattle.time_merge.specs.declared.readiness.Readiness.{Readiness}

-- the layout of their sub-buffers, all of them, and of which it is known what comes next
pub record LanesSeen : Type 0 where
  pub layout : Layout
  pub all : List Lane
  pub readiness : Readiness
