-- The places of numbers, as they are noted one after another.
use Rattle.std.proofs.Common.{◌≡◌, ℕ, zero, suc, ◌+◌, ◌%◌, ◌<◌, ◌≤◌, List, [], ◌∷◌, length, drop, set, replicate, slice_index, refl, sym, ap, subst, ◌∙◌, arith}
use Rattle.std.specs.Int.{IsNextPowerOfTwo}
use Rattle.std.proofs.lemmas.List.{at_drop_all, length-replicate, length-set}
use Rattle.noted_places.specs.Noted.{noted, noted_from, wanted}

drop_one : (ns : List ℕ) (i : ℕ) → i < length ns → drop i ns ≡ slice_index ns i ∷ drop (i + 1) ns
drop_one [] i less = absurd (omega (arith, less))
drop_one (n ∷ ns) zero less = refl
drop_one (n ∷ ns) (suc i) less = let more : suc i + 1 ≡ suc (i + 1) = omega arith in rw more (drop_one ns i (omega (arith, less)))

-- the entries so far, and what the numbers from one on make of them
abbrev pub AreNoted : List ℕ → List ℕ → ℕ → Type 0
AreNoted places ns i = noted_from (length places) i places (drop i ns) ≡ noted (length places) ns

-- as many entries as there are to be
abbrev pub AreEnough : List ℕ → List ℕ → Type 0
AreEnough places ns = IsNextPowerOfTwo (wanted (length ns)) (length places)

-- entries in which nothing is noted yet
pub long : (places : List ℕ) (room count : ℕ) → places ≡ replicate room count → length places ≡ room
long places room count is = ap length is ∙ length-replicate {A = ℕ} room count

pub all_same : (places : List ℕ) (room count : ℕ) → places ≡ replicate room count → places ≡ replicate (length places) count
all_same places room count is = is ∙ ap (λ (r : ℕ). replicate r count) (sym (long places room count is))

pub none_noted : (places ns : List ℕ) → places ≡ replicate (length places) (length ns) → AreNoted places ns 0
none_noted places ns none = ap (λ (p : List ℕ). noted_from (length places) 0 p ns) none

pub one_noted : (places now ns : List ℕ) (i : ℕ) → i < length ns → now ≡ set places (slice_index ns i % length places) i → AreNoted places ns i → AreNoted now ns (i + 1)
one_noted places now ns i less is before =
    let same : length now ≡ length places = ap length is ∙ length-set places (slice_index ns i % length places) i in
    subst (λ (r : ℕ). noted_from r (i + 1) now (drop (i + 1) ns) ≡ noted r ns) (sym same)
    (ap (λ (p : List ℕ). noted_from (length places) (i + 1) p (drop (i + 1) ns)) is
    ∙ ap (noted_from (length places) i places) (sym (drop_one ns i less))
    ∙ before)

pub enough_stays : (places now ns : List ℕ) (slot place : ℕ) → now ≡ set places slot place → AreEnough places ns → AreEnough now ns
enough_stays places now ns slot place is enough = subst (λ (r : ℕ). IsNextPowerOfTwo (wanted (length ns)) r) (sym (ap length is ∙ length-set places slot place)) enough

pub all_noted : (places ns : List ℕ) (i : ℕ) → length ns ≤ i → AreNoted places ns i → places ≡ noted (length places) ns
all_noted places ns i le before = sym (at_drop_all (noted_from (length places) i places) ns i le) ∙ before
