-- The items of several processors in one order: by key, then processor, then position.
-- Source: trace-cmd-report(1), which prints the events of all processors in the order of their times.
use Rattle.std.specs.Prelude.{◌≡◌, ℕ, ◌<◌, ◌≤◌, max, nat_le, ◌==◌, if◌then◌else◌, List, [], ◌∷◌, filter, flat_map}
use Rattle.subpage.specs.ItemData.{ItemData, item_time}

-- An item with its processor, and with its key: the greatest time among the items of its processor up to it.
pub record Keyed : Type 0 where
  pub key : ℕ
  pub cpu : ℕ
  pub item : ItemData

-- a processor's items, where no item before them is later than high
abbrev pub keyed_from : ℕ → ℕ → List ItemData → List Keyed
keyed_from cpu high [] = []
keyed_from cpu high (x ∷ xs) =
    record { key = max high (item_time x); cpu = cpu; item = x } ∷ keyed_from cpu (max high (item_time x)) xs

-- the items of processors, each with its number, one processor after another
abbrev pub all_keyed : List (ℕ × List ItemData) → List Keyed
all_keyed lists = flat_map (λ list. keyed_from list.0 0 list.1) lists

-- the numbers of the processors rise
abbrev pub CpusRise : {X : Type 0} → List (ℕ × X) → Type 0
CpusRise [] = Unit {0}
CpusRise (p ∷ []) = Unit {0}
CpusRise (p ∷ q ∷ ps) = (p.0 < q.0) × CpusRise (q ∷ ps)

module _ {X : Type 0} (key : X → ℕ) where
  -- keys do not fall
  abbrev pub IsRising : List X → Type 0
  IsRising [] = Unit {0}
  IsRising (x ∷ []) = Unit {0}
  IsRising (x ∷ y ∷ ys) = (key x ≤ key y) × IsRising (y ∷ ys)

  -- those of one key
  abbrev pub with_key : ℕ → List X → List X
  with_key k xs = filter (λ x. key x == k) xs

  -- an element before the first whose key is no smaller
  abbrev pub put : X → List X → List X
  put x [] = x ∷ []
  put x (y ∷ ys) = if nat_le (key x) (key y) then x ∷ y ∷ ys else y ∷ put x ys

  -- by rising keys, with those of one key as they stood
  abbrev pub by_key : List X → List X
  by_key [] = []
  by_key (x ∷ xs) = put x (by_key xs)

abbrev pub key_of : Keyed → ℕ
key_of x = x.key

abbrev pub cpu_of : Keyed → ℕ
cpu_of x = x.cpu

-- The items of all processors: keys rise, those of one key rise by processor, and those of one processor stand as they
-- stand in its list.
pub record IsArranged (lists : List (ℕ × List ItemData)) (xs : List Keyed) : Type 0 where
  pub by_keys : IsRising key_of xs
  pub by_processors : (k : ℕ) → IsRising cpu_of (with_key key_of k xs)
  pub by_positions : (cpu : ℕ) → with_key cpu_of cpu xs ≡ with_key cpu_of cpu (all_keyed lists)

-- The same, computed, for lists whose processors rise.
unfoldable pub arranged : List (ℕ × List ItemData) → List Keyed
arranged lists = by_key key_of (all_keyed lists)
