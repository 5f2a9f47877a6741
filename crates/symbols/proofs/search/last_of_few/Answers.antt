use Rattle.std.proofs.Common.{ℕ, ◌+◌, ◌<◌, ◌≤◌, List, length, arith}
use Rattle.std.proofs.lemmas.List.{length-map}
use Rattle.symbols.specs.declared.names.Spot.{Spot}
use Rattle.symbols.specs.Search.{keys_in}
use Rattle.symbols.proofs.FewSpots.{first_step, inside_next, last_step, next_step}
use Rattle.symbols.proofs.search.last_of_few.Goals as goal

pub returns : goal.returns
returns c =
    let keys : List ℕ = keys_in c.args.spots.now in
    let key : ℕ = c.args.key in
    let from : ℕ = c.args.near.from in
    let one = next_step keys key from 0 from c.advance-second.result (first_step keys key from c.requires.first) c.advance-second.ensures in
    let two = next_step keys key from 1 c.advance-second.result c.advance-third.result one c.advance-third.ensures in
    let three = next_step keys key from 2 c.advance-third.result c.advance.result two c.advance.ensures in
    let few : c.args.near.to ≤ from + (3 + 1) = omega (arith, c.requires.few.1) in
    let within : c.args.near.to < length keys = omega (arith, c.requires.within, length-map c.args.spots.now (λ (s : Spot). s.key)) in
    let inside = inside_next keys key from c.requires.rises c.args.near.to within c.requires.past in
    let second : c.advance-second.result < c.args.near.to = inside 1 from c.advance-second.result c.requires.few.0 c.advance-second.ensures one in
    let third : c.advance-third.result < c.args.near.to = inside 2 c.advance-second.result c.advance-third.result second c.advance-third.ensures two in
    let last : c.advance.result < c.args.near.to = inside 3 c.advance-third.result c.advance.result third c.advance.ensures three in
    last_step keys key from c.requires.rises c.args.near.to within c.requires.past 3 c.advance.result few last three
