-- Places that are passed over, as their dirty bits are clear.
use Rattle.std.proofs.Common.{◌≡◌, ℕ, zero, suc, ◌+◌, ◌-◌, ◌<◌, ◌≤◌, Bool, true, false, List, length, get_or, take, drop, inl, inr, refl, sym, ap, subst, ◌∙◌, arith}
use Rattle.std.proofs.Math.Bool.{beq}
use Rattle.std.proofs.lemmas.Bool.{cases_lt}
use Rattle.std.proofs.lemmas.List.{get_or-drop, get_or-take}
use Rattle.page_pool.specs.Moved.{NoneMarked}

-- the places from one up to another, none of which has its dirty bit set
pub record PassedOver (moved : List Bool) (from at : ℕ) : Type 0 where
  pub behind : from ≤ at
  pub within : at ≤ length moved
  pub none : NoneMarked moved from at

unmarked : (b : Bool) → beq b true ≡ false → b ≡ false
unmarked true is = is
unmarked false is = refl

-- more places, none of which has its dirty bit set
pub group_more : (moved : List Bool) (from at to : ℕ) → PassedOver moved from at → at ≤ to → to ≤ length moved
    → ((k : ℕ) (d : Bool) → k < to - at → beq (get_or (take (to - at) (drop at moved)) k d) true ≡ false)
    → PassedOver moved from to
group_more moved from at to before later within none = record {
  behind = omega (arith, before.behind, later);
  within = within;
  none = λ i behind inside. elim (cases_lt i at) as (λ _. get_or moved i true ≡ false) [
    | inl lt ↦ before.none i behind lt
    | inr le ↦
        let k = i - at in
        let less : k < to - at = omega (arith, inside, le) in
        let there : at + k ≡ i = omega (arith, le) in
        let same : get_or (take (to - at) (drop at moved)) k true ≡ get_or moved i true =
        get_or-take (to - at) (drop at moved) k true less ∙ (get_or-drop at moved k true ∙ ap (λ (n : ℕ). get_or moved n true) there) in
        sym same ∙ unmarked (get_or (take (to - at) (drop at moved)) k true) (none k true less)
  ];
}

module _ (P : ℕ → Type 0) (moved : List Bool) (from : ℕ) where
  along : (n : ℕ) → NoneMarked moved from (from + n)
      → ((j : ℕ) → from ≤ j → j < from + n → get_or moved j true ≡ false → P j → P (j + 1))
      → P from → P (from + n)
  along zero none step first = subst P (omega arith) first
  along (suc n) none step first =
      let before : P (from + n) = along n (λ i behind inside. none i behind (omega (arith, inside))) (λ j behind inside. step j behind (omega (arith, inside))) first in
      let here : from + n < from + suc n = omega arith in
      subst P (omega arith) (step (from + n) (omega arith) here (none (from + n) (omega arith) here) before)

  -- what holds at a place holds at a later one, where it goes on over each place whose dirty bit is clear
  pub passing : (to : ℕ) → from ≤ to → NoneMarked moved from to
      → ((j : ℕ) → from ≤ j → j < to → get_or moved j true ≡ false → P j → P (j + 1))
      → P from → P to
  passing to behind none step first =
      let there : from + (to - from) ≡ to = omega (arith, behind) in
      subst P there (along (to - from) (λ i more inside. none i more (omega (arith, inside, there))) (λ j more inside. step j more (omega (arith, inside, there))) first)
