use Rattle.std.proofs.Common.{◌≡◌, ℕ, ◌+◌, ◌/◌, ◌<◌, List, ◌++◌, length, set, take, drop, unwrap_or, sym, ap, subst, ◌∙◌, arith}
use Rattle.std.proofs.lemmas.List.{length-set}
use Rattle.tournament_tree.specs.Nodes.{AllBut, HasNodes, IsTreeOver, base_with, nexts_in, node, short_of}
use Rattle.tournament_tree.specs.declared.slot_key.SlotKey.{SlotKey}
use Rattle.tournament_tree.proofs.Settling.{set_but, some_settled}
use Rattle.tournament_tree.proofs.Setting.{small_set, leaves_set, leaves_with, low_base, refill, timeless_set}
use Rattle.tournament_tree.proofs.trees.TournamentTree.set.Goals as goal

pub settle-requires-clause-but : goal.settle-requires-clause-but
settle-requires-clause-but c =
    let t = c.self.inside in
    let full : 0 < length t.nodes.items = grind (arith, c.is_empty.ensures, c.if-is_empty.false, t.nodes.ok.0) in
    let v = c.self.invariant.nodes full in
    let n : ℕ = c.len-slots.result in
    let slots : n ≡ length (nexts_in t) = omega (arith, c.len-slots.ensures, t.keys.ok.0) in
    let slot : c.args.slot < n = omega (arith, c.requires, slots, ap length c.self.view_is) in
    let mid : c.as_mut_slice.result.now ≡ set t.nodes.items (n + c.args.slot) c.short_of.result = c.as_mut_slice.ensures.value in
    let old : AllBut n t.nodes.items (n + c.args.slot) = some_settled n (n + c.args.slot) t.nodes.items (λ q one lt. v.settled q one (omega (arith, lt, slots))) in
    subst (λ (nodes : List ℕ). AllBut n nodes ((n + c.args.slot) / 2)) (sym mid)
    (set_but n (n + c.args.slot) t.nodes.items c.short_of.result (omega (arith, slot)) (omega (arith, slot)) (omega (arith, v.size, slots)) (λ lt. absurd (omega (arith, lt))) old)

pub invariant_of-self-2 : goal.invariant_of-self-2
invariant_of-self-2 c =
    let t = c.self.inside in
    let keys : List SlotKey = nexts_in t in
    let slot : ℕ = c.args.slot in
    let key : SlotKey = c.args.key in
    let full : 0 < length t.nodes.items = grind (arith, c.is_empty.ensures, c.if-is_empty.false, t.nodes.ok.0) in
    let w = c.self.invariant in
    let v = w.nodes full in
    let n : ℕ = c.len-slots.result in
    let slots : n ≡ length keys = omega (arith, c.len-slots.ensures, t.keys.ok.0) in
    let inside : slot < length keys = omega (arith, c.requires, ap length c.self.view_is) in
    let long : length (set keys slot key) ≡ length keys = length-set keys slot key in
    let base : c.base_with-base.new.base ≡ base_with t.base key = c.base_with-base.ensures.set in
    let short : c.short_of.result ≡ short_of (unwrap_or (base_with t.base key) 0) slot key = c.short_of.ensures.value ∙ ap (λ (b : ℕ). short_of b slot key) (c.base_with-base.ensures.value ∙ ap (λ from. unwrap_or from 0) base) in
    let mid : c.as_mut_slice.result.now ≡ set t.nodes.items (n + slot) c.short_of.result = c.as_mut_slice.ensures.value in
    let same : set t.nodes.items (n + slot) c.short_of.result ≡ set t.nodes.items (length keys + slot) (short_of (unwrap_or (base_with t.base key) 0) slot key) =
    ap (λ (m : ℕ). set t.nodes.items (m + slot) c.short_of.result) slots ∙ ap (set t.nodes.items (length keys + slot)) short in
    let size : length c.settle.new.nodes ≡ length t.nodes.items = c.settle.ensures.size ∙ ap length mid ∙ length-set t.nodes.items (n + slot) c.short_of.result in
    let old : List ℕ = set t.nodes.items (n + slot) c.short_of.result in
    let all : take t.nodes.len (c.settle.new.nodes ++ drop (length c.settle.new.nodes) old) ≡ c.settle.new.nodes =
    refill t.nodes.len c.settle.new.nodes (drop (length c.settle.new.nodes) old) (omega (arith, size, t.nodes.ok.0)) in
    let nodes : HasNodes (set keys slot key) (base_with t.base key) c.settle.new.nodes = record {
      few = omega (arith, v.few, long);
      size = omega (arith, size, v.size, long);
      base = low_base t.base key v.base;
      timeless = timeless_set keys slot key inside t.base v.timeless;
      leaves = leaves_set keys slot key inside (unwrap_or (base_with t.base key) 0) t.nodes.items c.settle.new.nodes v.size (leaves_with keys slot key inside t.base t.nodes.items v.timeless v.leaves)
          (λ i le. c.settle.ensures.leaves i (omega (arith, le, slots)) ∙ ap (λ (nodes : List ℕ). node nodes i) (mid ∙ same));
      settled = λ q one lt. c.settle.ensures.settled q one (omega (arith, lt, slots, long));
    } in
    subst (λ (words : List ℕ). IsTreeOver (set keys slot key) c.base_with-base.new.base words) (sym all) (record {
      few = omega (arith, w.few, long);
      small = small_set keys slot key inside c.short_of.ensures.small w.small;
      nodes = λ some. subst (λ from. HasNodes (set keys slot key) from c.settle.new.nodes) (sym base) nodes;
    })
