-- What a stamp does to a running time.
use Rattle.std.proofs.Common.{◌≡◌, ℕ, ◌+◌, ◌*◌, ◌/◌, ◌%◌, ◌^◌, ◌<◌, ◌≤◌, true, false, eqb, leb, refl, ap, ◌∙◌, inl, inr, arith}
use Rattle.std.proofs.lemmas.Bool.{leb-true, leb-false, eq-eqb, ne_eqb, cases_Bool}
use Rattle.std.proofs.lemmas.Nat.{mod-mul-add}
use Rattle.subpage.specs.RunningTime.{upper_bits, stamped}

pub stamped_below : (time stamp : ℕ) → time < 2 ^ 59 → stamped time stamp ≡ stamp
stamped_below time stamp lt =
    let none : eqb (upper_bits time) 0 ≡ true = eq-eqb _ _ (omega arith) in
    rw none refl

-- where the running time has upper bits
record Stamped (time stamp : ℕ) : Type 0 where
  turns : ℕ
  stamped_is : stamped time stamp ≡ turns * 2 ^ 59 + stamp
  from : time ≤ turns * 2 ^ 59 + stamp
  near : turns * 2 ^ 59 + stamp < time + 2 ^ 59

stamped_above : (time stamp : ℕ) → 2 ^ 59 ≤ time → stamp < 2 ^ 59 → Stamped time stamp
stamped_above time stamp le small =
    let q = time / 2 ^ 59 in
    let upper : upper_bits time ≡ q * 2 ^ 59 = omega arith in
    let some : eqb (upper_bits time) 0 ≡ false = ne_eqb _ _ (λ e. omega arith) in
    elim (cases_Bool (leb time (upper_bits time + stamp))) [
      | inl b ↦
          let reaches : time ≤ upper_bits time + stamp = leb-true _ _ b in
          record { turns = q; stamped_is = rw (some, b, upper) refl; from = omega arith; near = omega arith }
      | inr b ↦
          let short : upper_bits time + stamp < time = leb-false _ _ b in
          let is : stamped time stamp ≡ upper_bits time + stamp + 2 ^ 59 = rw (some, b) refl in
          record { turns = q + 1; stamped_is = omega arith; from = omega arith; near = omega arith }
    ]

pub stamped_low : (time stamp : ℕ) → stamp < 2 ^ 59 → stamped time stamp % 2 ^ 59 ≡ stamp
stamped_low time stamp small =
    elim (cases_Bool (leb (2 ^ 59) time)) [
      | inl b ↦
          let s = stamped_above time stamp (leb-true _ _ b) small in
          ap (λ n. n % 2 ^ 59) s.stamped_is ∙ mod-mul-add s.turns (2 ^ 59) stamp small
      | inr b ↦
          let below : time < 2 ^ 59 = leb-false _ _ b in
          let is : stamped time stamp ≡ stamp = stamped_below time stamp below in
          omega arith
    ]

pub stamped_from : (time stamp : ℕ) → 2 ^ 59 ≤ time → stamp < 2 ^ 59 → time ≤ stamped time stamp
stamped_from time stamp le small = let s = stamped_above time stamp le small in omega arith

pub stamped_near : (time stamp : ℕ) → 2 ^ 59 ≤ time → stamp < 2 ^ 59 → stamped time stamp < time + 2 ^ 59
stamped_near time stamp le small = let s = stamped_above time stamp le small in omega arith
