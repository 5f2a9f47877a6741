use Rattle.std.proofs.Common.{◌≡◌, ℕ, ◌+◌, ◌*◌, ◌<◌, min, List, length, subst, ◌∙◌, arith}
use Rattle.std.proofs.lemmas.List.{get_or-set_other}
use Rattle.tournament_tree.specs.Nodes.{AllBut, node}
use Rattle.tournament_tree.proofs.Settling.{set_but, all_settled}
use Rattle.tournament_tree.proofs.trees.settle.Goals as goal

pub loop-at-preserved : goal.loop-at-preserved
loop-at-preserved c =
    let nodes : List ℕ = c.loop-at.nodes in
    let at : ℕ = c.loop-at.at in
    let size : length nodes ≡ 2 * c.args.slots = c.loop-at.auto.nodes ∙ c.requires.size in
    let inside : at < c.args.slots = c.loop-at.invariant.inside in
    let fixed : c.min.result ≡ min (node nodes (2 * at)) (node nodes (2 * at + 1)) = c.min.ensures in
    record {
      inside = omega (arith, inside);
      but = set_but c.args.slots at nodes c.min.result c.loop-at-test.true (omega (arith, inside)) size (λ lt. fixed) c.loop-at.invariant.but;
      leaves = λ i le. get_or-set_other nodes at i c.min.result 0 (omega (arith, inside, le)) ∙ c.loop-at.invariant.leaves i le;
    }

pub returns-clause-settled : goal.returns-clause-settled
returns-clause-settled c =
    let zero_at : c.loop-at.at ≡ 0 = omega (arith, c.loop-at-test.false) in
    all_settled c.args.slots c.loop-at.nodes (subst (AllBut c.args.slots c.loop-at.nodes) zero_at c.loop-at.invariant.but)
