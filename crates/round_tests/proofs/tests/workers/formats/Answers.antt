use Rattle.round_tests.proofs.OpenedLanes.{new_layouts, one_page}
use Rattle.round_tests.proofs.tests.workers.formats.Goals as goal

pub format_lanes-requires-clause-page : goal.format_lanes-requires-clause-page
format_lanes-requires-clause-page g c = λ lifetimes live.
    one_page _ _ (c.open_lanes.ensures.layouts _ (new_layouts _ _ _ _ c.lanes-lanes.ensures.value c.in_ok-pool.ensures.lanes))
