use Rattle.std.proofs.Common.{rules, ◌-◌, arith, length}
use Rattle.std.proofs.lemmas.List.Sorted.{answers_always, IsNonDecreasingBy-from_sort, IsPermutation-put_mid}
use Rattle.symbols.proofs.Sorting.{spot_key, put_rises, put_same}
use Rattle.symbols.proofs.order.sort_spots.Goals as goal

pub returns-clause-permutation : goal.returns-clause-permutation
returns-clause-permutation c =
    let n = c.ordered_front-front.result in
    IsPermutation-put_mid n (length c.args.spots.now - n) c.args.spots.now c.sort_by_key.new.self c.sort_by_key.ensures.permutation

pub returns-clause-rises : goal.returns-clause-rises
returns-clause-rises c =
    let n = c.ordered_front-front.result in
    let late = c.sort_by_key.new.self in
    put_rises c.args.spots.now late n (length c.args.spots.now - n) c.ordered_front-front.ensures (omega arith) c.sort_by_key.ensures.permutation
    (IsNonDecreasingBy-from_sort spot_key late (c.in_ok-sort_by_key.ensures.sorted spot_key (answers_always _ _ _ (λ f a r g h. search rules))))

pub returns-clause-same : goal.returns-clause-same
returns-clause-same c =
    let n = c.ordered_front-front.result in
    let late = c.sort_by_key.new.self in
    put_same c.args.spots.now late n (length c.args.spots.now - n) (omega arith) c.sort_by_key.ensures.len
    (c.in_ok-sort_by_key.ensures.stable spot_key (answers_always _ _ _ (λ f a r g h. search rules)))
