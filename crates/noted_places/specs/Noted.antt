-- The place of each number of a list, as it is noted: numbers that are equal modulo the number of entries share an entry, which
-- has the place of the last of them. An entry in which no number is noted has the list's length, at which there is none.
use Rattle.std.specs.Prelude.{ℕ, ◌+◌, ◌*◌, ◌%◌, min, max, List, [], ◌∷◌, length, set, replicate}

abbrev pub noted_from : ℕ → ℕ → List ℕ → List ℕ → List ℕ
noted_from room place places [] = places
noted_from room place places (n ∷ ns) = noted_from room (place + 1) (set places (n % room) place) ns

abbrev pub noted : ℕ → List ℕ → List ℕ
noted room numbers = noted_from room 0 (replicate room (length numbers)) numbers

-- how many entries so many numbers are to have at the least: eight for each, but no fewer than 64, and no more than 2^20
abbrev pub wanted : ℕ → ℕ
wanted count = max 64 (min (8 * count) 1048576)
