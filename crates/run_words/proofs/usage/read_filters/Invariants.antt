use Rattle.std.proofs.Common.{◌≡◌, Ok, map}
use Rattle.filter_truth.specs.SelectionView.{use_of}
use Rattle.run_words.proofs.Usages.{read_up_to}
use Rattle.run_words.proofs.usage.read_filters.Given as goal

abbrev pub invariant-loop-filter : goal.invariant-loop-filter
invariant-loop-filter l = read_up_to l.filters l.filter-index ≡ Ok (map use_of l.uses.items)
