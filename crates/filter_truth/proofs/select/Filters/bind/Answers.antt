use Rattle.std.proofs.Common.{map, ap, ◌∙◌}
use Rattle.std.proofs.lemmas.List.{take_all}
use Rattle.filter_truth.specs.NamedView.{formats_of}
use Rattle.filter_truth.specs.Selection.{filters_show}
use Rattle.filter_truth.specs.SelectionView.{use_of, format_at_place}
use Rattle.filter_truth.proofs.Shows.{bound_plain, bound_shows}
use Rattle.filter_truth.proofs.select.Filters.bind.Goals as goal

pub returns : goal.returns
returns c =
    let l = c.loop-filter_use in
    let uses = c.args.uses.now in
    let formats = formats_of c.in_ok-named.named.items in
    let shown = bound_shows formats uses l.bound.items (l.invariant ∙ ap (map (bound_plain formats)) (take_all l.filter_use-index uses c.loop-filter_use-test.false)) in
    λ i e. shown i e ∙ ap (λ fs. filters_show (map use_of uses) (format_at_place fs i) e) c.in_ok-named.ensures
