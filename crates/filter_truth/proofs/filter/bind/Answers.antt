use Rattle.std.proofs.Common.{◌≡◌, ap, ◌∙◌}
use Rattle.filter_lang.specs.FilterView.{filter_of}
use Rattle.filter_truth.specs.BoundFilter.{bound_holds, bind_filter}
use Rattle.filter_truth.specs.BoundView.{conditions_of}
use Rattle.filter_truth.proofs.Bindings.{same_truth}
use Rattle.filter_truth.proofs.filter.bind.Goals as goal

pub returns-clause-truth : goal.returns-clause-truth
returns-clause-truth c =
    let f = filter_of c.args.filter.now in
    let formats = c.args.formats.now in
    let bound : conditions_of c.in_ok-bound.bound ≡ bind_filter f formats = cc (c.in_ok-bound.ensures, c.deref.ensures.value, c.in_ok-named.ensures) in
    λ i e. ap (λ cs. bound_holds cs i e) bound ∙ same_truth f formats i e
