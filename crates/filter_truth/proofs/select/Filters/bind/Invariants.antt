use Rattle.std.proofs.Common.{◌≡◌, map, take}
use Rattle.filter_truth.specs.NamedView.{formats_of}
use Rattle.filter_truth.proofs.Shows.{plain_of, bound_plain}
use Rattle.filter_truth.proofs.select.Filters.bind.Given as goal

abbrev pub invariant-loop-filter_use : goal.invariant-loop-filter_use
invariant-loop-filter_use l = map plain_of l.bound.items ≡ map (bound_plain (formats_of l.named.items)) (take l.filter_use-index l.uses)
