use Rattle.std.proofs.Common.{◌≡◌, ◌⊎◌, ℕ, ◌*◌, ◌%◌, ◌<◌, ◌≤◌, List, length, get_or, Some, ap, subst, arith}
use Rattle.tournament_tree.specs.Least.{IsLeastAt}
use Rattle.tournament_tree.specs.Nodes.{mark_of, most, nexts_in, nothing}
use Rattle.tournament_tree.specs.declared.slot_key.SlotKey.{SlotKey}
use Rattle.tournament_tree.specs.declared.slot_key.SlotKey.TheVariants.{Empty}
use Rattle.tournament_tree.proofs.Scanning.{least_slot, none_not_some}
use Rattle.tournament_tree.proofs.trees.TournamentTree.least_of_all.Goals as goal

found : (c : goal.Else-least-eq-NOTHING) → (c.least_mark-least.result % most < length (nexts_in c.self.inside)) × IsLeastAt (nexts_in c.self.inside) (Some (c.least_mark-least.result % most))
found c =
    let keys : List SlotKey = nexts_in c.self.inside in
    let m : ℕ = c.least_mark-least.result in
    let e = c.least_mark-least.ensures in
    let is : c.deref.result.now ≡ keys = c.deref.ensures.value in
    let among : (m ≡ nothing * most) ⊎ ((j : ℕ) × ((j < length keys) × (m ≡ mark_of j (get_or keys j Empty)))) =
    subst (λ (ks : List SlotKey). (m ≡ nothing * most) ⊎ ((j : ℕ) × ((j < length ks) × (m ≡ mark_of j (get_or ks j Empty))))) is e.among in
    let low : (j : ℕ) → j < length keys → m ≤ mark_of j (get_or keys j Empty) =
    subst (λ (ks : List SlotKey). (j : ℕ) → j < length ks → m ≤ mark_of j (get_or ks j Empty)) is (λ j lt. e.least j lt (none_not_some j)) in
    least_slot keys m c.self.invariant.few c.if-least-eq-NOTHING.false among low

pub returns-else-least-eq-NOTHING-clause-least : goal.returns-else-least-eq-NOTHING-clause-least
returns-else-least-eq-NOTHING-clause-least c =
    let P : List SlotKey → Type 0 = λ keys. IsLeastAt keys (Some (c.least_mark-least.result % most)) in
    subst P c.self.view_is (found c).1

pub returns-else-least-eq-NOTHING-clause-inside : goal.returns-else-least-eq-NOTHING-clause-inside
returns-else-least-eq-NOTHING-clause-inside c = let h = (found c).0 in omega (arith, h, ap length c.self.view_is)
