-- Lanes before a piece of theirs is measured.
use Rattle.std.specs.Prelude.{◌≡◌, ℕ, ◌<◌, All, List, [], length, slice_index_or}
use Rattle.trace_base.specs.declared.layout.Layout.{Layout}
use Rattle.page_pool.specs.declared.lane.Lane.{Lane}
use Rattle.event_cursor.specs.Places.{place_in}
use Rattle.event_cursor.specs.declared.places.Place.{Place}
use Rattle.time_merge.specs.LaneRows.{IsReady}
use Rattle.split_passes.specs.ListSeen.{ListSeen}
use Rattle.split_passes.specs.Tallies.{IsTally}

-- these are the places where they stand
abbrev pub AreNoted : List Lane → List Place → Type 0
AreNoted lanes fronts =
    (i : ℕ) (d : Lane) (p : Place) → i < length lanes → slice_index_or fronts i p ≡ place_in (slice_index_or lanes i d)

-- They are ready, the places where they stand were noted, and their tallies count nothing, by any layout.
pub record IsBegun (list : ListSeen) : Type 0 where
  pub ready : All IsReady list.all
  pub noted : AreNoted list.all list.fronts
  pub none : (layout : Layout) → All (λ tally. IsTally layout tally []) list.tallies
