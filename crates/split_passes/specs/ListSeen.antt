-- What the lanes of a list are to their callers.
use Rattle.std.specs.Prelude.{List}
use Rattle.trace_base.specs.declared.layout.Layout.{Layout}
use Rattle.page_pool.specs.declared.lane.Lane.{Lane}
use Rattle.event_cursor.specs.declared.places.Place.{Place}
use Rattle.split_passes.specs.declared.tally.Tally.{Tally}

-- the layout of their sub-buffers, all of them, and of each the place where the piece begins and the tally of what it takes
pub record ListSeen : Type 0 where
  pub layout : Layout
  pub all : List Lane
  pub fronts : List Place
  pub tallies : List Tally
