-- A tournament tree over slots: each slot has a leaf, and each node above is the lesser of the two below it.
-- Leaves are short marks, which tell keys apart that are not too far from each other; whole marks tell all apart.
use Rattle.std.specs.Prelude.{◌≡◌, ◌≢◌, ℕ, zero, suc, ◌+◌, ◌-◌, ◌*◌, ◌/◌, ◌%◌, ◌<◌, ◌≤◌, nat_lt, if◌then◌else◌, min, List, length, slice_index_or, Option, unwrap_or, Some, None}
use Rattle.tournament_tree.specs.declared.slot_key.SlotKey.{SlotKey}
use Rattle.tournament_tree.specs.declared.slot_key.SlotKey.TheVariants.{Empty, Start, At}
use Rattle.tournament_tree.specs.declared.trees.TournamentTree.TheInside.{Inside}
use Rattle.tournament_tree.specs.Least.{rank}

-- a number that all slots stand below
abbrev pub most : ℕ
most = 4294967296

-- the rank of a slot with nothing, above those of all keys
abbrev pub nothing : ℕ
nothing = 18446744073709551617

-- The whole mark of a slot, by which slots are compared: lesser ranks come first, and slots of one rank in their order.
abbrev pub mark_of : ℕ → SlotKey → ℕ
mark_of slot Empty = nothing * most
mark_of slot Start = rank None * most + slot
mark_of slot (At time) = rank (Some time) * most + slot

-- whatever comes ranks below an empty slot
abbrev pub IsSmall : SlotKey → Type 0
IsSmall Empty = Unit {0}
IsSmall Start = rank None < nothing
IsSmall (At time) = rank (Some time) < nothing

-- how far before the first time the base is set
abbrev pub half : ℕ
half = 9007199254740992

-- A number that all slots of a tree with nodes stand below: a short mark is so many times its short rank, and the slot.
abbrev pub scale : ℕ
scale = 1024

-- the short rank of keys that are too far on from the base, and of a slot with nothing
abbrev pub top : ℕ
top = 18014398509481983

-- the greatest base: with each short rank below the top the sum is a key
abbrev pub highest : ℕ
highest = 18428729675200069632

-- The short mark of a slot: the key counts from the base, as far as it is less than the top.
abbrev pub short_of : ℕ → ℕ → SlotKey → ℕ
short_of base slot Empty = top * scale
short_of base slot Start = slot
short_of base slot (At time) = if nat_lt time base then slot else (min (time - base) (top - 1) + 1) * scale + slot

-- The slot of the least short mark has the least key where that mark stands between these.
abbrev pub IsTelling : ℕ → Type 0
IsTelling mark = (scale ≤ mark) × (mark < top * scale)

-- the whole mark of the same slot and key
abbrev pub whole : ℕ → ℕ → ℕ
whole base mark = (base + mark / scale) * most + mark % scale

abbrev pub node : List ℕ → ℕ → ℕ
node nodes p = slice_index_or nodes p 0

abbrev pub IsSettled : List ℕ → ℕ → Type 0
IsSettled nodes p = node nodes p ≡ min (node nodes (2 * p)) (node nodes (2 * p + 1))

-- the node so many steps above
abbrev pub above : ℕ → ℕ → ℕ
above zero p = p
above (suc steps) p = above steps (p / 2)

-- all nodes over two others are settled, but those at a place and above it
abbrev pub AllBut : ℕ → List ℕ → ℕ → Type 0
AllBut slots nodes p = (q : ℕ) → 1 ≤ q → q < slots → ((steps : ℕ) → q ≢ above steps p) → IsSettled nodes q

-- the leaves are those of the slots
abbrev pub HasLeaves : ℕ → List ℕ → List SlotKey → Type 0
HasLeaves base nodes keys = (i : ℕ) → i < length keys → node nodes (length keys + i) ≡ short_of base i (slice_index_or keys i Empty)

-- it does not come at a time
abbrev pub IsTimeless : SlotKey → Type 0
IsTimeless Empty = Unit {0}
IsTimeless Start = Unit {0}
IsTimeless (At time) = ⊥

-- the base once a slot has this key: the first time that comes sets it
abbrev pub base_with : Option ℕ → SlotKey → Option ℕ
base_with (Some base) key = Some base
base_with None Empty = None
base_with None Start = None
base_with None (At time) = Some (min (time - half) highest)

-- what comes next in each slot
abbrev pub nexts_in : Inside → List SlotKey
nexts_in tree = tree.keys.items

pub record HasNodes (nexts : List SlotKey) (from : Option ℕ) (nodes : List ℕ) : Type 0 where
  pub few : length nexts ≤ scale
  pub size : length nodes ≡ 2 * length nexts
  pub base : unwrap_or from 0 ≤ highest
  pub timeless : from ≡ None → (i : ℕ) → i < length nexts → IsTimeless (slice_index_or nexts i Empty)
  pub leaves : HasLeaves (unwrap_or from 0) nodes nexts
  pub settled : (q : ℕ) → 1 ≤ q → q < length nexts → IsSettled nodes q

-- There are nodes, or there are too many slots for them, or none.
pub record IsTreeOver (nexts : List SlotKey) (base : Option ℕ) (words : List ℕ) : Type 0 where
  pub few : length nexts ≤ most
  pub small : (i : ℕ) → i < length nexts → IsSmall (slice_index_or nexts i Empty)
  pub nodes : 0 < length words → HasNodes nexts base words

abbrev pub IsTree : Inside → Type 0
IsTree tree = IsTreeOver (nexts_in tree) tree.base tree.nodes.items
