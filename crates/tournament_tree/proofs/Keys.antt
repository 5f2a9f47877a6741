-- A tree without keys, and a key that stands there already.
use Rattle.std.proofs.Common.{◌≡◌, ℕ, ◌+◌, ◌*◌, ◌<◌, ◌≤◌, List, length, replicate, get_or, set, None, sym, ap, subst, ◌∙◌, arith}
use Rattle.std.proofs.lemmas.List.{get_or-replicate, length-replicate, set-get_or}
use Rattle.tournament_tree.specs.declared.slot_key.SlotKey.{SlotKey}
use Rattle.tournament_tree.specs.declared.slot_key.SlotKey.TheVariants.{Empty}
use Rattle.tournament_tree.specs.Nodes.{IsSmall, IsTimeless, IsTreeOver, most, node, scale, short_of, top}

pub empty_tree : (n places : ℕ) → n ≤ most → (0 < places → (n ≤ scale) × (places ≡ 2 * n)) → IsTreeOver (replicate n Empty) None (replicate places (top * scale))
empty_tree n places few there =
    let nexts : List SlotKey = replicate n Empty in
    let nodes : List ℕ = replicate places (top * scale) in
    let long : length nexts ≡ n = length-replicate n Empty in
    let wide : length nodes ≡ places = length-replicate places (top * scale) in
    let leaf : (i : ℕ) → i < places → node nodes i ≡ top * scale = λ i lt. get_or-replicate places i (top * scale) 0 lt in
    let next : (i : ℕ) → i < n → get_or nexts i Empty ≡ Empty = λ i lt. get_or-replicate n i Empty Empty lt in
    record {
      few = omega (arith, few, long);
      small = λ i lt. subst IsSmall (sym (next i (omega (arith, lt, long)))) tt;
      nodes = λ some.
          let is = there (omega (arith, some, wide)) in
          record {
            few = omega (arith, is.0, long);
            size = omega (arith, is.1, wide, long);
            base = omega arith;
            timeless = λ none i lt. subst IsTimeless (sym (next i (omega (arith, lt, long)))) tt;
            leaves = λ i lt. leaf (length nexts + i) (omega (arith, lt, long, is.1)) ∙ ap (short_of 0 i) (sym (next i (omega (arith, lt, long))));
            settled = λ q one lt.
                let own = leaf q (omega (arith, lt, long, is.1)) in
                let left = leaf (2 * q) (omega (arith, lt, long, is.1)) in
                let right = leaf (2 * q + 1) (omega (arith, lt, long, is.1)) in
                omega (arith, own, left, right);
          };
    }

pub same_key : (keys : List SlotKey) (slot : ℕ) (key : SlotKey) → key ≡ get_or keys slot key → keys ≡ set keys slot key
same_key keys slot key is = sym (ap (set keys slot) is ∙ set-get_or keys slot key)
