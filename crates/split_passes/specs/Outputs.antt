-- What packing goes on: lanes, and what the sink has of them.
use Rattle.std.specs.Prelude.{ℕ, List, Option}
use Rattle.subpage.specs.ItemData.{ItemData}
use Rattle.page_pool.specs.declared.lane.Lane.{Lane}

-- one lane
pub record LaneOutput : Type 0 where
  pub lane : Lane
  pub written : Option (List ℕ)

-- with the items of the open sub-buffer, which the sink has not yet
pub record OpenOutput : Type 0 where
  pub lane : Lane
  pub written : Option (List ℕ)
  pub held : List ItemData

-- several lanes
pub record LanesOutput : Type 0 where
  pub lanes : List Lane
  pub written : Option (List ℕ)
