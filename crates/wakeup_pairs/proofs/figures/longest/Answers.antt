use Rattle.std.proofs.Common.{◌≡◌, fold, refl, subst, rules}
use Rattle.std.proofs.lemmas.List.Sums.{fold_push}
use Rattle.std.proofs.lemmas.Fn.{fold_over, slice_gives, fronts}
use Rattle.wakeup_pairs.specs.Figures.{longer}
use Rattle.wakeup_pairs.proofs.figures.longest.Goals as goal

pub returns : goal.returns
returns c =
    let first = c.args.first in
    subst (λ pairs. c.fold.result ≡ fold longer first pairs) c.iter.ensures.rest
    (fold_over fronts (λ pair. pair.now) _ (λ pairs best. best ≡ fold longer first pairs) _
    (λ pairs best pair now f' is ran. let more = fold_push longer first pairs pair.now in search rules)
    _ _ _ _ (slice_gives c.iter.result) refl c.fold.ensures.ran)
