use Rattle.std.proofs.Common.{◌≡◌, ℕ, ◌%◌, ◌<◌, List, length, Some, unwrap_or, sym, ap, subst, arith}
use Rattle.std.proofs.lemmas.List.{get_or_read}
use Rattle.tournament_tree.specs.Least.{IsLeastAt}
use Rattle.tournament_tree.specs.Nodes.{IsTelling, nexts_in, node, scale}
use Rattle.tournament_tree.specs.declared.slot_key.SlotKey.{SlotKey}
use Rattle.tournament_tree.proofs.Root.{least_at}
use Rattle.tournament_tree.proofs.trees.TournamentTree.least.Goals as goal

found : (c : goal.Then-is_telling) → (c.index-first.result.now % scale < length (nexts_in c.self.inside)) × IsLeastAt (nexts_in c.self.inside) (Some (c.index-first.result.now % scale))
found c =
    let t = c.self.inside in
    let keys : List SlotKey = nexts_in t in
    let full : 0 < length t.nodes.items = grind (arith, c.is_empty.ensures, c.if-not-is_empty.true, t.nodes.ok.0) in
    let v = c.self.invariant.nodes full in
    let some : 0 < length keys = omega (arith, full, v.size) in
    let first : c.index-first.result.now ≡ node t.nodes.items 1 = get_or_read t.nodes.items 1 c.index-first.result.now (omega (arith, some, v.size)) c.index-first.ensures 0 in
    let telling : IsTelling c.index-first.result.now = c.is_telling.ensures c.if-is_telling.true in
    let P : ℕ → Type 0 = λ m. (m % scale < length keys) × IsLeastAt keys (Some (m % scale)) in
    subst P (sym first) (least_at keys (unwrap_or t.base 0) t.nodes.items some v.few v.base v.leaves v.settled (subst IsTelling first telling))

pub returns-then-is_telling-clause-least : goal.returns-then-is_telling-clause-least
returns-then-is_telling-clause-least c =
    let P : List SlotKey → Type 0 = λ keys. IsLeastAt keys (Some (c.index-first.result.now % scale)) in
    subst P c.self.view_is (found c).1

pub returns-then-is_telling-clause-inside : goal.returns-then-is_telling-clause-inside
returns-then-is_telling-clause-inside c = let h = (found c).0 in omega (arith, h, ap length c.self.view_is)
