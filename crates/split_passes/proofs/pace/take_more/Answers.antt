use Rattle.std.proofs.Common.{◌≡◌, ℕ, ◌<◌, length, get_or, set, refl, ap, subst, arith}
use Rattle.std.proofs.lemmas.List.{get_or_default}
use Rattle.page_pool.specs.declared.lane.Lane.{Lane}
use Rattle.split_passes.specs.Choices.{Counting}
use Rattle.split_passes.specs.Rounds.{Counts}
use Rattle.split_passes.specs.Takings.{IsTurnTaken}
use Rattle.split_passes.specs.declared.tally.Tally.{Tally}
use Rattle.split_passes.proofs.pace.take_more.Goals as goal

pub returns : goal.returns
returns c =
    let i : ℕ = c.args.i in
    let before : Counts = record { gauge = c.args.gauge.now; lanes = c.args.lanes.now; tallies = c.args.tallies.now } in
    let tried : Counts = record { gauge = c.try_round.new.gauge; lanes = c.try_round.new.lanes; tallies = c.try_round.new.tallies } in
    let now : Counting = record { gauge = c.try_turn.new.gauge; tally = c.try_turn.new.tally } in
    let same : tried ≡ before = c.if-try_round.ensures.taken in
    let x : Tally = c.index-tallies-i.result in
    let inside : i < length tried.tallies = omega (arith, ap (λ (k : Counts). length k.tallies) same, c.requires.in_step.inside, c.requires.long) in
    let Turn : Counts → Type 0 = λ k. (d : Lane) (t : Tally) → IsTurnTaken c.args.stop (record { gauge = k.gauge; tally = get_or k.tallies i t }) now k.lanes i d c.try_turn.new.lanes in
    let turn : Turn tried = λ d t.
    subst (λ (y : Tally). IsTurnTaken c.args.stop (record { gauge = tried.gauge; tally = y }) now tried.lanes i d c.try_turn.new.lanes)
    (get_or_default tried.tallies i x t inside) (c.try_turn.ensures.taken d) in
    record { taken = (refl, (c.try_turn.new.tally, (ap (λ (k : Counts). set k.tallies i c.try_turn.new.tally) same, subst Turn same turn))) }
