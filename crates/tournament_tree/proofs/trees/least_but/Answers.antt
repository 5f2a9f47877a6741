use Rattle.std.proofs.Common.{◌≡◌, ℕ, ◌/◌, ◌≤◌, ◌⊎◌, sym, subst, arith}
use Rattle.tournament_tree.proofs.Beside.{IsLeastBelow, all_below, beside_even, beside_odd, more_below, none_below}
use Rattle.tournament_tree.proofs.trees.least_but.Goals as goal
use Rattle.tournament_tree.proofs.trees.least_but.Goals.{then-at-eq0, else-at-eq0}

pub loop-at-init : goal.loop-at-init
loop-at-init c =
    let inside = c.requires.inside in
    record {
      some = omega (arith, inside.0, inside.1);
      inside = inside.1;
      below = none_below c.args.slots c.args.nodes.now c.args.place _ inside.0;
    }

pub loop-at-preserved : goal.loop-at-preserved
loop-at-preserved c =
    let at : ℕ = c.loop-at.at in
    let beside : ℕ = c.if-at-eq0.beside in
    let before = c.loop-at.invariant in
    let around : (r : ℕ) → r / 2 ≡ at / 2 → (r ≡ at) ⊎ (r ≡ beside) = elim c.if-at-eq0.branch [
      | then-at-eq0 w ↦ λ r half. subst (λ (b : ℕ). (r ≡ at) ⊎ (r ≡ b)) (sym w.beside-is) (beside_even at w.if-at-eq0.true r half)
      | else-at-eq0 w ↦ λ r half. subst (λ (b : ℕ). (r ≡ at) ⊎ (r ≡ b)) (sym w.beside-is) (beside_odd at w.if-at-eq0.false r half)
    ] in
    record {
      some = omega (arith, c.loop-at-test.true);
      inside = omega (arith, before.inside);
      below = subst (IsLeastBelow c.args.slots c.args.nodes.now c.args.place (at / 2)) (sym c.min-least.ensures)
          (more_below c.args.slots c.args.nodes.now c.args.place at c.loop-at.least beside c.requires.settled c.loop-at-test.true before.inside around before.below);
    }

pub returns : goal.returns
returns c = λ q from lt other.
    let before = c.loop-at.invariant in
    let one : c.loop-at.at ≡ 1 = omega (arith, before.some, c.loop-at-test.false) in
    let some : 1 ≤ q = omega (arith, from, lt) in
    all_below c.args.slots c.args.nodes.now c.args.place c.loop-at.at c.loop-at.least one before.below q from lt other some
