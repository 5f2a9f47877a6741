-- Short marks beside the whole ones.
use Rattle.std.proofs.Common.{◌≡◌, ◌≢◌, ℕ, ◌+◌, ◌-◌, ◌*◌, ◌%◌, ◌<◌, ◌≤◌, min, if◌then◌else◌, Bool, inl, inr, ap, ◌∙◌, arith}
use Rattle.std.proofs.lemmas.Bool.{cases_lt, lt-ltb, le-ltb}
use Rattle.tournament_tree.specs.declared.slot_key.SlotKey.{SlotKey}
use Rattle.tournament_tree.specs.declared.slot_key.SlotKey.TheVariants.{Empty, Start, At}
use Rattle.tournament_tree.specs.Nodes.{IsTelling, highest, mark_of, most, nothing, scale, short_of, top, whole}

-- a time before the base, and one that is not
early : (base slot time : ℕ) → time < base → short_of base slot (At time) ≡ slot
early base slot time lt = ap (λ (b : Bool). if b then slot else (min (time - base) (top - 1) + 1) * scale + slot) (lt-ltb time base lt)

late : (base slot time : ℕ) → base ≤ time → short_of base slot (At time) ≡ (min (time - base) (top - 1) + 1) * scale + slot
late base slot time le = ap (λ (b : Bool). if b then slot else (min (time - base) (top - 1) + 1) * scale + slot) (le-ltb time base le)

-- a slot whose short mark is not less than one that tells has no lesser key
pub less_mark : (base slot : ℕ) (key : SlotKey) (m : ℕ) → base ≤ highest → slot < scale → IsTelling m → m ≤ short_of base slot key → whole base m ≤ mark_of slot key
less_mark base slot Empty m low inside t le = omega (arith, low, t.0, t.1)
less_mark base slot Start m low inside t le = absurd (omega (arith, inside, t.0, le))
less_mark base slot (At time) m low inside t le = elim (cases_lt time base) as (λ _. whole base m ≤ mark_of slot (At time)) [
  | inl lt ↦ absurd (omega (arith, early base slot time lt, inside, t.0, le))
  | inr ge ↦ omega (arith, late base slot time ge, inside, ge, t.0, t.1, le)
]

-- the short mark that tells is that of the slot, and both tell the same
pub same_mark : (base slot : ℕ) (key : SlotKey) (m : ℕ) → slot < scale → IsTelling m → m ≡ short_of base slot key → (slot ≡ m % scale) × (whole base m ≡ mark_of slot key)
same_mark base slot Empty m inside t is = absurd (omega (arith, t.1, is))
same_mark base slot Start m inside t is = absurd (omega (arith, inside, t.0, is))
same_mark base slot (At time) m inside t is = elim (cases_lt time base) as (λ _. (slot ≡ m % scale) × (whole base m ≡ mark_of slot (At time))) [
  | inl lt ↦ absurd (omega (arith, early base slot time lt, inside, t.0, is))
  | inr ge ↦
      let now : m ≡ (min (time - base) (top - 1) + 1) * scale + slot = is ∙ late base slot time ge in
      (omega (arith, now, inside), omega (arith, now, inside, ge, t.1))
]

pub whole_less : (base m : ℕ) → base ≤ highest → IsTelling m → whole base m ≢ nothing * most
whole_less base m low t e = omega (arith, low, t.1, e)

pub whole_most : (base m : ℕ) → base ≤ highest → IsTelling m → whole base m ≤ nothing * most
whole_most base m low t = omega (arith, low, t.1)
