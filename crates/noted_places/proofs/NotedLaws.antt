-- What is noted last under a remainder stays.
use Rattle.std.proofs.Common.{◌≡◌, ℕ, zero, suc, ◌+◌, ◌%◌, ◌<◌, ◌≤◌, List, [], ◌∷◌, length, set, replicate, slice_index, refl, sym, subst, ◌∙◌, arith}
use Rattle.std.proofs.lemmas.List.{length-set, length-replicate, get_or-set_same, get_or-set_other, get_or-replicate}
use Rattle.noted_places.specs.Noted.{noted, noted_from}
use Rattle.noted_places.proofs.Rooms.{remainder_less}

abbrev pub HasNone : ℕ → List ℕ → ℕ → Type 0
HasNone room ns remainder = (j : ℕ) → j < length ns → slice_index ns j % room ≡ remainder → ⊥

abbrev pub IsLast : ℕ → List ℕ → ℕ → Type 0
IsLast room ns i = (j : ℕ) → i < j → j < length ns → slice_index ns j % room ≡ slice_index ns i % room → ⊥

long : (room : ℕ) (ns places : List ℕ) (place : ℕ) → length (noted_from room place places ns) ≡ length places
long room [] places place = refl
long room (n ∷ ns) places place = long room ns (set places (n % room) place) (place + 1) ∙ length-set places (n % room) place

-- a place stays where no number has its remainder
kept : (room : ℕ) (ns places : List ℕ) (place remainder : ℕ) → HasNone room ns remainder → slice_index (noted_from room place places ns) remainder ≡ slice_index places remainder
kept room [] places place remainder none = refl
kept room (n ∷ ns) places place remainder none =
    kept room ns (set places (n % room) place) (place + 1) remainder (λ j less. none (suc j) (omega (arith, less)))
    ∙ get_or-set_other places (n % room) remainder place 0 (λ e. none zero (omega arith) (sym e))

last : (room : ℕ) (ns places : List ℕ) (place i : ℕ) → 0 < room → length places ≡ room → i < length ns → IsLast room ns i → slice_index (noted_from room place places ns) (slice_index ns i % room) ≡ place + i
last room [] places place i some count less later = absurd (omega (arith, less))
last room (n ∷ ns) places place zero some count less later =
    let inside : n % room < length places = subst (λ (l : ℕ). n % room < l) (sym count) (remainder_less n room some) in
    kept room ns (set places (n % room) place) (place + 1) (n % room) (λ j within. later (suc j) (omega arith) (omega (arith, within)))
    ∙ get_or-set_same places (n % room) place 0 inside
    ∙ omega arith
last room (n ∷ ns) places place (suc i) some count less later =
    last room ns (set places (n % room) place) (place + 1) i some (length-set places (n % room) place ∙ count) (omega (arith, less)) (λ j behind within. later (suc j) (omega (arith, behind)) (omega (arith, within)))
    ∙ omega arith

-- a place that is noted is less than the list's end
set_less : (xs : List ℕ) (i v r bound : ℕ) → v < bound → slice_index xs r < bound → slice_index (set xs i v) r < bound
set_less [] i v r bound new old = old
set_less (x ∷ xs) zero v zero bound new old = new
set_less (x ∷ xs) zero v (suc r) bound new old = old
set_less (x ∷ xs) (suc i) v zero bound new old = old
set_less (x ∷ xs) (suc i) v (suc r) bound new old = set_less xs i v r bound new old

less_stays : (room : ℕ) (ns places : List ℕ) (place r bound : ℕ) → place + length ns ≤ bound → slice_index places r < bound → slice_index (noted_from room place places ns) r < bound
less_stays room [] places place r bound le less = less
less_stays room (n ∷ ns) places place r bound le less =
    less_stays room ns (set places (n % room) place) (place + 1) r bound (omega (arith, le)) (set_less places (n % room) place r bound (omega (arith, le)) less)

some_less : (room : ℕ) (ns places : List ℕ) (place i bound : ℕ) → 0 < room → length places ≡ room → i < length ns → place + length ns ≤ bound → slice_index (noted_from room place places ns) (slice_index ns i % room) < bound
some_less room [] places place i bound some count less le = absurd (omega (arith, less))
some_less room (n ∷ ns) places place zero bound some count less le =
    let inside : n % room < length places = subst (λ (l : ℕ). n % room < l) (sym count) (remainder_less n room some) in
    less_stays room ns (set places (n % room) place) (place + 1) (n % room) bound (omega (arith, le))
    (subst (λ (v : ℕ). v < bound) (sym (get_or-set_same places (n % room) place 0 inside)) (omega (arith, le)))
some_less room (n ∷ ns) places place (suc i) bound some count less le =
    some_less room ns (set places (n % room) place) (place + 1) i bound some (length-set places (n % room) place ∙ count) (omega (arith, less)) (omega (arith, le))

pub noted_count : (room : ℕ) (ns : List ℕ) → length (noted room ns) ≡ room
noted_count room ns = long room ns (replicate room (length ns)) 0 ∙ length-replicate {A = ℕ} room (length ns)

pub noted_last : (room : ℕ) (ns : List ℕ) (i : ℕ) → 0 < room → i < length ns → IsLast room ns i → slice_index (noted room ns) (slice_index ns i % room) ≡ i
noted_last room ns i some less later = last room ns (replicate room (length ns)) 0 i some (length-replicate {A = ℕ} room (length ns)) less later ∙ omega arith

pub noted_none : (room : ℕ) (ns : List ℕ) (remainder : ℕ) → remainder < room → HasNone room ns remainder → slice_index (noted room ns) remainder ≡ length ns
noted_none room ns remainder less none = kept room ns (replicate room (length ns)) 0 remainder none ∙ get_or-replicate room remainder (length ns) 0 less

pub noted_some : (room : ℕ) (ns : List ℕ) (i : ℕ) → 0 < room → i < length ns → slice_index (noted room ns) (slice_index ns i % room) < length ns
noted_some room ns i some less = some_less room ns (replicate room (length ns)) 0 i (length ns) some (length-replicate {A = ℕ} room (length ns)) less (omega arith)
