-- A lane that changes: its slot in the tree and its dirty bit follow.
use Rattle.std.proofs.Common.{◌≡◌, ◌≢◌, ◌<◌, ◌≤◌, ◌⊎◌, inl, inr, ℕ, zero, suc, Bool, true, false, List, [], ◌∷◌, get_or, set, map, length, refl, sym, ap, ◌∙◌, arith, get_or-set_same}
use Rattle.std.proofs.lemmas.Bool.{cases_eq}
use Rattle.std.proofs.lemmas.List.{get_or_default, get_or-set_other, length-drop, map-set}
use Rattle.tournament_tree.specs.declared.slot_key.SlotKey.{SlotKey}
use Rattle.page_pool.specs.Moved.{KeepsUnmoved}
use Rattle.page_pool.specs.declared.lane.Lane.{Lane}
use Rattle.round_print.specs.Prints.{head_kept}
use Rattle.round_print.specs.Rounds.{IsFrontDropped, KeepsMarks, MarksPrinted}

pub heads_on : (heads now_heads : List SlotKey) (lanes : List Lane) (i : ℕ) (now : Lane) (key : SlotKey) → now_heads ≡ set heads i key → key ≡ head_kept now
    → heads ≡ map head_kept lanes → now_heads ≡ map head_kept (set lanes i now)
heads_on heads now_heads lanes i now key is_set is_key step =
    is_set ∙ ap (set heads i) is_key ∙ ap (λ (keys : List SlotKey). set keys i (head_kept now)) step ∙ sym (map-set head_kept lanes i now)

marked_at : (moved : List Bool) (i : ℕ) → get_or (set moved i true) i true ≡ true
marked_at [] zero = refl
marked_at [] (suc i) = refl
marked_at (mark ∷ moved) zero = refl
marked_at (mark ∷ moved) (suc i) = marked_at moved i

unmarked_other : (moved : List Bool) (i k : ℕ) → get_or (set moved i true) k true ≡ false → (k ≢ i) × (get_or moved k true ≡ false)
unmarked_other moved i k unmarked = (other, sym (get_or-set_other moved i k true true other) ∙ unmarked)
  where
    other : k ≢ i
    other same = cc (marked_at moved i)

pub unmoved_on : (moved : List Bool) (first lanes : List Lane) (i : ℕ) (now : Lane) → KeepsUnmoved moved first lanes → KeepsUnmoved (set moved i true) first (set lanes i now)
unmoved_on moved first lanes i now keeps k d lt unmarked =
    let other = unmarked_other moved i k unmarked in
    get_or-set_other lanes i k now d other.0 ∙ keeps k d lt other.1

pub marked_on : (before moved : List Bool) (i : ℕ) → KeepsMarks before moved → KeepsMarks before (set moved i true)
marked_on before moved i keeps k unmarked = keeps k (unmarked_other moved i k unmarked).1

abbrev kept_of : Lane → ℕ
kept_of lane = length lane.region.kept

-- no lane keeps more lines than before
abbrev pub KeepNoMore : List Lane → List Lane → Type 0
KeepNoMore first lanes = (i : ℕ) (d : Lane) → i < length first → length (get_or lanes i d).region.kept ≤ length (get_or first i d).region.kept

pub some_fewer : (n : ℕ) (lane now : Lane) → IsFrontDropped n lane now → 0 < n → n ≤ length lane.region.kept → length now.region.kept < length lane.region.kept
some_fewer n lane now dropped some kept = omega (arith, ap length dropped.region.kept, length-drop n lane.region.kept, some, kept)

module _ (first lanes : List Lane) (k : ℕ) (d now : Lane) (inside : k < length lanes) (shorter : length now.region.kept < length (get_or lanes k d).region.kept) (fewer : KeepNoMore first lanes) where
  here : (i : ℕ) (e : Lane) → i ≡ k → kept_of (get_or (set lanes k now) i e) ≡ kept_of now
  here i e same = ap (λ (j : ℕ). kept_of (get_or (set lanes k now) j e)) same ∙ ap kept_of (get_or-set_same lanes k now e inside)

  was : (i : ℕ) (e : Lane) → i ≡ k → kept_of (get_or lanes i e) ≡ kept_of (get_or lanes k d)
  was i e same = ap (λ (j : ℕ). kept_of (get_or lanes j e)) same ∙ ap kept_of (get_or_default lanes k e d inside)

  other_kept : (i : ℕ) (e : Lane) → i ≢ k → kept_of (get_or (set lanes k now) i e) ≡ kept_of (get_or lanes i e)
  other_kept i e other = ap kept_of (get_or-set_other lanes k i now e other)

  pub no_more_on : KeepNoMore first (set lanes k now)
  no_more_on i e lt = elim (cases_eq i k) as (λ _. kept_of (get_or (set lanes k now) i e) ≤ kept_of (get_or first i e)) [
    | inl same ↦ omega (arith, here i e same, was i e same, shorter, fewer i e lt)
    | inr other ↦ omega (arith, other_kept i e other, fewer i e lt)
  ]

-- a lane of which a line was printed is dirty
pub anew_on : (before moved : List Bool) (first lanes : List Lane) (k : ℕ) (d now : Lane) → k < length lanes → length now.region.kept < length (get_or lanes k d).region.kept → KeepNoMore first lanes
    → MarksPrinted first lanes before moved → MarksPrinted first (set lanes k now) before (set moved k true)
anew_on before moved first lanes k d now inside shorter fewer anew i e lt unmarked =
    let Is : Type 0 = (get_or (set moved k true) i true ≡ false) ⊎ (kept_of (get_or (set lanes k now) i e) < kept_of (get_or first i e)) in
    elim (cases_eq i k) as (λ _. Is) [
      | inl same ↦ inr (omega (arith, here first lanes k d now inside shorter fewer i e same, was first lanes k d now inside shorter fewer i e same, shorter, fewer i e lt))
      | inr other ↦ elim (anew i e lt unmarked) as (λ _. Is) [
        | inl still ↦ inl (get_or-set_other moved k i true true other ∙ still)
        | inr less ↦ inr (omega (arith, other_kept first lanes k d now inside shorter fewer i e other, less))
      ]
    ]
