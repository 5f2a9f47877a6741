-- A node that is written, and those that are settled then.
use Rattle.std.proofs.Common.{◌≡◌, ◌≢◌, ℕ, zero, suc, ◌+◌, ◌*◌, ◌/◌, ◌<◌, ◌≤◌, min, List, length, set, inl, inr, refl, sym, ap, ◌∙◌, arith}
use Rattle.std.proofs.lemmas.List.{get_or-set_same, get_or-set_other}
use Rattle.std.proofs.lemmas.Bool.{cases_eq}
use Rattle.tournament_tree.specs.Nodes.{AllBut, IsSettled, above, node}

pub set_but : (slots at : ℕ) (nodes : List ℕ) (e : ℕ) → 1 ≤ at → at < 2 * slots → length nodes ≡ 2 * slots
    → (at < slots → e ≡ min (node nodes (2 * at)) (node nodes (2 * at + 1)))
    → AllBut slots nodes at → AllBut slots (set nodes at e) (at / 2)
set_but slots at nodes e pos inside size fixed but q one lt ne = elim (cases_eq q at) as (λ _. IsSettled (set nodes at e) q) [
  | inl same ↦
      let here : node (set nodes at e) q ≡ e = ap (node (set nodes at e)) same ∙ get_or-set_same nodes at e 0 (omega (arith, inside, size)) in
      let left : node (set nodes at e) (2 * q) ≡ node nodes (2 * at) = get_or-set_other nodes at (2 * q) e 0 (omega (arith, same, pos)) ∙ ap (λ n. node nodes (2 * n)) same in
      let right : node (set nodes at e) (2 * q + 1) ≡ node nodes (2 * at + 1) = get_or-set_other nodes at (2 * q + 1) e 0 (omega (arith, same, pos)) ∙ ap (λ n. node nodes (2 * n + 1)) same in
      here ∙ fixed (omega (arith, same, lt)) ∙ ap (λ x. min x (node nodes (2 * at + 1))) (sym left) ∙ ap (min (node (set nodes at e) (2 * q))) (sym right)
  | inr other ↦
      let here : node (set nodes at e) q ≡ node nodes q = get_or-set_other nodes at q e 0 other in
      let away : q ≢ at / 2 = ne 0 in
      let left : node (set nodes at e) (2 * q) ≡ node nodes (2 * q) = get_or-set_other nodes at (2 * q) e 0 (omega (arith, away)) in
      let right : node (set nodes at e) (2 * q + 1) ≡ node nodes (2 * q + 1) = get_or-set_other nodes at (2 * q + 1) e 0 (omega (arith, away)) in
      here ∙ but q one lt (not_above other ne) ∙ ap (λ x. min x (node nodes (2 * q + 1))) (sym left) ∙ ap (min (node (set nodes at e) (2 * q))) (sym right)
]
  where
    not_above : q ≢ at → ((steps : ℕ) → q ≢ above steps (at / 2)) → (steps : ℕ) → q ≢ above steps at
    not_above other ne zero = other
    not_above other ne (suc steps) = ne steps

-- all are settled once nothing is above
pub all_settled : (slots : ℕ) (nodes : List ℕ) → AllBut slots nodes 0 → (q : ℕ) → 1 ≤ q → q < slots → IsSettled nodes q
all_settled slots nodes but q one lt = but q one lt (λ steps e. omega (arith, one, e ∙ top steps))
  where
    top : (steps : ℕ) → above steps 0 ≡ 0
    top zero = refl
    top (suc steps) = top steps

-- where all are settled, all but some are
pub some_settled : (slots p : ℕ) (nodes : List ℕ) → ((q : ℕ) → 1 ≤ q → q < slots → IsSettled nodes q) → AllBut slots nodes p
some_settled slots p nodes settled q one lt ne = settled q one lt
