use Rattle.std.proofs.Common.{ℕ, ◌*◌, ◌≤◌, length, arith}
use Rattle.std.proofs.lemmas.List.Elements.{All-weaker}
use Rattle.split_pieces.specs.Allowing.{IsEventUpTo}
use Rattle.split_passes.proofs.RoundTaking.{shares_fit}
use Rattle.split_passes.proofs.rounds.reach_of.Goals as goal

pub returns-in-Some-horizon : goal.returns-in-Some-horizon
returns-in-Some-horizon c =
    let allowance = c.in-Some.allowance in
    let lanes = length c.args.lanes.now in
    let most : ℕ = c.min-most.result in
    let until : ℕ = c.in-Some-horizon.found.until in
    let fit : lanes * most ≤ allowance.events = shares_fit lanes most allowance.events (omega (arith, c.min-most.ensures)) in
    record {
      reaches = c.in-Some-horizon.ensures.reaches.1;
      takes = λ xs all few. c.in-Some.ensures xs (All-weaker (IsEventUpTo until) (IsEventUpTo allowance.until) (λ x e. (e.0, omega (arith, e.1, c.in-Some-horizon.ensures.reaches.0, c.until_of.ensures.allowed))) xs all) (omega (arith, few, fit));
      inside = λ key le. c.until_of.ensures.inside key (omega (arith, le, c.in-Some-horizon.ensures.reaches.0));
      few = omega (arith, fit);
      run = c.in-Some-horizon.ensures.run;
    }
