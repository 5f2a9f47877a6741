-- The lane of a horizon is the one of the least greatest time.
use Rattle.std.proofs.Common.{◌≡◌, ℕ, suc, ◌+◌, ◌-◌, ◌<◌, ◌≤◌, List, ◌∷◌, ◌++◌, length, get_or, map, Option, Some, None, sym, ap, subst, ◌∙◌, arith, inl, inr}
use Rattle.std.specs.List.{All}
use Rattle.std.proofs.lemmas.Bool.{cases_order}
use Rattle.std.proofs.lemmas.List.{get_or_append_left, get_or-append-add, length-append}
use Rattle.std.proofs.Math.Seq.{get_or-append_seam}
use Rattle.page_pool.specs.declared.lane.Lane.{Lane}
use Rattle.tournament_tree.specs.declared.slot_key.SlotKey.{SlotKey}
use Rattle.tournament_tree.specs.declared.slot_key.SlotKey.TheVariants.{Empty}
use Rattle.tournament_tree.specs.Least.{from_time}
use Rattle.tournament_tree.proofs.Ranks.{never_empty, rank_from}
use Rattle.time_merge.specs.declared.ending.End.TheVariants as code
use Rattle.time_merge.specs.declared.horizons.Horizon.{Horizon}
use Rattle.time_merge.specs.declared.horizons.Horizon.TheVariants as horizon
use Rattle.time_merge.specs.Horizons.{IsHorizon, high_of}
use Rattle.time_merge.specs.Nexts.{IsLeastAt, IsLeastOf}
use Rattle.time_merge.specs.Rows.{NotBefore, rank}
use Rattle.report_rounds.specs.Ends.{IsOutcome, IsStop}
use Rattle.report_rounds.specs.declared.ends.Outcome.{Outcome}
use Rattle.report_rounds.specs.declared.ends.Outcome.TheVariants as round

module _ (keys : List SlotKey) (i : ℕ) (high : Option ℕ) (least : IsLeastOf keys i high) where
  abbrev parted : List SlotKey
  parted = least.before ++ from_time high ∷ least.after

  long : length keys ≡ i + 1 + length least.after
  long = omega (arith, ap length least.split, length-append least.before (from_time high ∷ least.after), least.place)

  at : (k : ℕ) → get_or keys k Empty ≡ get_or parted k Empty
  at k = ap (λ (xs : List SlotKey). get_or xs k Empty) least.split

  inside : i < length keys
  inside = omega (arith, long)

  here : get_or keys i Empty ≡ from_time high
  here = at i ∙ ap (λ (k : ℕ). get_or parted k Empty) (sym least.place) ∙ get_or-append_seam least.before (from_time high) least.after Empty

  sooner : (j : ℕ) → j < i → NotBefore (rank high + 1) (get_or keys j Empty)
  sooner j lt =
      let before : j < length least.before = omega (arith, lt, least.place) in
      subst (NotBefore (rank high + 1)) (sym (at j ∙ get_or_append_left least.before (from_time high ∷ least.after) Empty j before))
      (least.sooner j Empty before)

  later : (j : ℕ) → i < j → j < length keys → NotBefore (rank high) (get_or keys j Empty)
  later j lt within =
      let k : ℕ = j - (i + 1) in
      let place : j ≡ length least.before + suc k = omega (arith, lt, least.place) in
      let behind : k < length least.after = omega (arith, lt, within, long) in
      let is : get_or keys j Empty ≡ get_or least.after k Empty =
      at j ∙ ap (λ (n : ℕ). get_or parted n Empty) place ∙ get_or-append-add least.before (from_time high ∷ least.after) (suc k) Empty in
      subst (NotBefore (rank high)) (sym is) (least.later k Empty behind)

-- the least key of two is at one place
not_two : (keys : List SlotKey) (i j : ℕ) (a b : Option ℕ) → IsLeastOf keys i a → IsLeastOf keys j b → i < j → ⊥
not_two keys i j a b first second lt =
    let second_sooner : rank b + 1 ≤ rank a = rank_from (rank b + 1) a (subst (NotBefore (rank b + 1)) (here keys i a first) (sooner keys j b second i lt)) in
    let first_later : rank a ≤ rank b = rank_from (rank a) b (subst (NotBefore (rank a)) (here keys j b second) (later keys i a first j lt (inside keys j b second))) in
    omega (arith, second_sooner, first_later)

same_place : (keys : List SlotKey) (i j : ℕ) (a b : Option ℕ) → IsLeastOf keys i a → IsLeastOf keys j b → i ≡ j
same_place keys i j a b first second = elim (cases_order i j) [
  | inl same ↦ same
  | inr o ↦ elim o [
    | inl lt ↦ absurd (not_two keys i j a b first second lt)
    | inr gt ↦ absurd (not_two keys j i b a second first gt)
  ]
]

none_least : (keys : List SlotKey) (i : ℕ) (high : Option ℕ) → All (λ key. key ≡ Empty) keys → IsLeastOf keys i high → ⊥
none_least keys i high none least = never_empty high (sym (here keys i high least) ∙ none i Empty (inside keys i high least))

-- what follows a round, by the lane of its horizon
abbrev pub Follows : (formed now : List Lane) (h : Horizon) → IsHorizon formed h → Outcome → Type 0
Follows formed now horizon.All is outcome = outcome ≡ round.Ends code.Done
Follows formed now (horizon.Start cpu) is outcome = (d : Lane) → IsStop (get_or now is.i d) outcome
Follows formed now (horizon.To key cpu) is outcome = (d : Lane) → IsStop (get_or now is.i d) outcome

module _ (formed now : List Lane) where
  stop_there : (i j : ℕ) (a b : Option ℕ) → IsLeastOf (map high_of formed) i a → IsLeastOf (map high_of formed) j b → (outcome : Outcome)
      → ((d : Lane) → IsStop (get_or now i d) outcome) → (d : Lane) → IsStop (get_or now j d) outcome
  stop_there i j a b first second outcome stop d = subst (λ (k : ℕ). IsStop (get_or now k d) outcome) (same_place (map high_of formed) i j a b first second) (stop d)

  pub follows : (h : Horizon) (is : IsHorizon formed h) (least : Option ℕ) → IsLeastAt (map high_of formed) least → (outcome : Outcome) → IsOutcome now least outcome → Follows formed now h is outcome
  follows horizon.All is None at outcome stop = stop
  follows horizon.All is (Some i) at outcome stop = absurd (none_least (map high_of formed) i at.0 is at.1)
  follows (horizon.Start cpu) is None at outcome stop = absurd (none_least (map high_of formed) is.i None at is.least)
  follows (horizon.Start cpu) is (Some i) at outcome stop = stop_there i is.i at.0 None at.1 is.least outcome stop
  follows (horizon.To key cpu) is None at outcome stop = absurd (none_least (map high_of formed) is.i (Some key) at is.least)
  follows (horizon.To key cpu) is (Some i) at outcome stop = stop_there i is.i at.0 (Some key) at.1 is.least outcome stop
