-- The keys of a processor's items.
use Rattle.std.proofs.Common.{◌≡◌, ℕ, suc, zero, ◌+◌, ◌<◌, max, List, [], ◌∷◌, map, length, take, Some, None, refl, ap, ◌∙◌, arith}
use Rattle.std.specs.Prelude.{slice_index}
use Rattle.std.specs.List.{fold, last_or}
use Rattle.subpage.specs.ItemData.{ItemData, item_time}
use Rattle.subpage.specs.Arrangement.{Keyed, key_of, keyed_from}
use Rattle.subpage.specs.Cut.{last_key}

abbrev pub item_of : Keyed → ItemData
item_of x = x.item

pub items_kept : (cpu high : ℕ) (items : List ItemData) → map item_of (keyed_from cpu high items) ≡ items
items_kept cpu high [] = refl
items_kept cpu high (x ∷ xs) = ap (λ (ys : List ItemData). x ∷ ys) (items_kept cpu (max high (item_time x)) xs)

pub key_at : (cpu high : ℕ) (items : List ItemData) (i : ℕ) → i < length items → slice_index (map key_of (keyed_from cpu high items)) i ≡ fold max high (map item_time (take (i + 1) items))
key_at cpu high [] i lt = absurd (omega arith)
key_at cpu high (x ∷ xs) zero lt = refl
key_at cpu high (x ∷ xs) (suc i) lt =
    let further : suc i + 1 ≡ suc (i + 1) = omega arith in
    rw further (key_at cpu (max high (item_time x)) xs i (omega arith))

last_from : (cpu high : ℕ) (items : List ItemData) → last_or (Some high) (map key_of (keyed_from cpu high items)) ≡ Some (fold max high (map item_time items))
last_from cpu high [] = refl
last_from cpu high (x ∷ xs) = last_from cpu (max high (item_time x)) xs

pub last_is : (cpu : ℕ) (items : List ItemData) → last_or None (map key_of (keyed_from cpu 0 items)) ≡ last_key items
last_is cpu [] = refl
last_is cpu (x ∷ xs) =
    let first : max 0 (item_time x) ≡ item_time x = omega arith in
    last_from cpu (max 0 (item_time x)) xs ∙ ap (λ n. Some (fold max n (map item_time xs))) first
