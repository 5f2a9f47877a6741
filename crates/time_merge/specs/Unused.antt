-- Lanes of which nothing was used up.
use Rattle.std.specs.Prelude.{◌≡◌, ℕ, replicate}
use Rattle.trace_base.specs.declared.layout.Layout.{Layout}
use Rattle.page_pool.specs.Fresh.{IsFresh}
use Rattle.page_pool.specs.Lines.{no_lines}
use Rattle.page_pool.specs.declared.lane.Lane.{Lane}
use Rattle.page_pool.specs.declared.limit.LineLimit.{LineLimit}

-- a lane of any processor as the pool made it, with room for a sub-buffer of this layout and so many bytes for lines
pub record IsUnused (layout : Layout) (room : ℕ) (lane : Lane) : Type 0 where
  pub layout_is : lane.layout ≡ layout
  pub fresh : IsFresh lane.cursor
  pub page : lane.page ≡ replicate layout.page 0
  pub region : (limit : LineLimit) × (lane.region ≡ no_lines limit (replicate room 0))
