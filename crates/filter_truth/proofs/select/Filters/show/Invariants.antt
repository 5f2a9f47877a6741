use Rattle.std.proofs.Common.{◌≡◌, drop}
use Rattle.filter_truth.specs.EventView.{event_of}
use Rattle.filter_truth.specs.SelectionView.{bound_show, rest_shows}
use Rattle.filter_truth.proofs.select.Filters.show.Given as goal

abbrev pub invariant-loop-filter : goal.invariant-loop-filter
invariant-loop-filter l = rest_shows l.showing l.shown (drop l.filter-index l.self) l.fn.format (event_of l.event) ≡ bound_show l.self l.fn.format (event_of l.event)
