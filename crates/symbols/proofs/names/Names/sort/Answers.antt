use Rattle.std.proofs.Common.{rules, ◌≡◌, ◌+◌, ◌≤◌, List, length, sym, subst}
use Rattle.std.proofs.lemmas.List.{with_items_is}
use Rattle.std.proofs.lemmas.List.Sorted.{All-permutation}
use Rattle.std.specs.Vec.{with_items}
use Rattle.symbols.specs.declared.names.Spot.{Spot}
use Rattle.symbols.specs.NameMap.{SamePairs}
use Rattle.symbols.specs.Names.{spots_view, AreWithin, IsSortedPairs}
use Rattle.symbols.proofs.Sorting.{rises_sorted}
use Rattle.symbols.proofs.names.Names.sort.Goals as goal

pub returns-clause-inside : goal.returns-clause-inside
returns-clause-inside c =
    let text = c.args.self.now.text in
    let same : (with_items c.args.self.now.spots c.sort_spots.new.spots).items ≡ c.sort_spots.new.spots = with_items_is c.args.self.now.spots c.sort_spots.new.spots (search rules) in
    subst (AreWithin text) (sym same) (All-permutation (λ (s : Spot). s.span.start + s.span.len ≤ length text) c.deref_mut.result.now c.sort_spots.new.spots c.in_ok-sort_spots.ensures.permutation
    (subst (AreWithin text) (sym c.deref_mut.ensures.value) c.requires))

pub returns-clause-rises : goal.returns-clause-rises
returns-clause-rises c =
    let text = c.args.self.now.text in
    let same : (with_items c.args.self.now.spots c.sort_spots.new.spots).items ≡ c.sort_spots.new.spots = with_items_is c.args.self.now.spots c.sort_spots.new.spots (search rules) in
    subst (λ (xs : List Spot). IsSortedPairs (spots_view text xs)) (sym same) (rises_sorted text c.sort_spots.new.spots c.in_ok-sort_spots.ensures.rises)

pub returns-clause-same : goal.returns-clause-same
returns-clause-same c =
    let text = c.args.self.now.text in
    let same : (with_items c.args.self.now.spots c.sort_spots.new.spots).items ≡ c.sort_spots.new.spots = with_items_is c.args.self.now.spots c.sort_spots.new.spots (search rules) in
    subst (λ (xs : List Spot). SamePairs (spots_view text c.args.self.now.spots.items) (spots_view text xs)) (sym same)
    (subst (λ (xs : List Spot). SamePairs (spots_view text xs) (spots_view text c.sort_spots.new.spots)) c.deref_mut.ensures.value (c.in_ok-sort_spots.ensures.same text))
