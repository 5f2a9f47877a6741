-- Tasks at the places that were noted for their numbers.
use Rattle.std.proofs.Common.{◌≡◌, ℕ, ◌%◌, ◌<◌, ◌≤◌, List, length, slice_index, None, sym, ap, ◌∙◌, arith}
use Rattle.std.specs.Map.{keys_of}
use Rattle.std.proofs.lemmas.List.{length-map}
use Rattle.noted_places.specs.Noted.{noted}
use Rattle.noted_places.proofs.NotedLaws.{noted_some}
use Rattle.symbols.specs.NameMap.{Pair, first_at}
use Rattle.symbols.proofs.PairLemmas.{none_at}

-- a place past the last is noted for the number of no task
pub no_task : (rows : List Pair) (places : List ℕ) (pid place : ℕ) → places ≡ noted (length places) (keys_of rows) → 0 < length places
    → place ≡ slice_index places (pid % length places) → length rows ≤ place → first_at pid rows ≡ None
no_task rows places pid place are some is past = none_at pid rows (λ k inside same.
    let room : ℕ = length places in
    let here : slice_index (noted room (keys_of rows)) (slice_index (keys_of rows) k % room) ≡ place =
    ap (λ (n : ℕ). slice_index (noted room (keys_of rows)) (n % room)) same
    ∙ ap (λ (l : List ℕ). slice_index l (pid % room)) (sym are)
    ∙ sym is in
    absurd (omega (arith, past, here, noted_some room (keys_of rows) k some inside, length-map rows (λ (p : Pair). p.0))))
