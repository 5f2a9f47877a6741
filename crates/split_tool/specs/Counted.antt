-- The items of a new file, processor by processor.
use Rattle.std.specs.Prelude.{◌≡◌, ℕ, ◌*◌, ◌%◌, ◌^◌, ◌<◌, All, List, [], length, map, slice_index_or}
use Rattle.std.specs.List.{range_with_len}
use Rattle.trace_base.specs.declared.layout.Layout.{Layout}
use Rattle.trace_base.specs.declared.part.Part.{Part}
use Rattle.subpage.specs.ItemData.{ItemData}
use Rattle.subpage.specs.Arrangement.{Keyed}
use Rattle.page_pool.specs.declared.lane.Lane.{Lane}
use Rattle.page_write.specs.Pack.{packed}
use Rattle.split_pieces.specs.Cuts.{items_of_cpu}
use Rattle.split_passes.specs.ListSeen.{ListSeen}
use Rattle.split_passes.specs.Tallies.{IsTally}
use Rattle.split_passes.specs.declared.tally.Tally.{Tally}
use Rattle.split_tool.specs.Lists.{lanes_of}

-- of a file's items, those of each processor
abbrev pub lists_of : ℕ → List Keyed → List (List ItemData)
lists_of cpus xs = map (λ cpu. items_of_cpu cpu xs) (range_with_len 0 cpus)

-- tallies count each lane's items
abbrev pub LanesCounted : Layout → List Lane → List Tally → List Keyed → Type 0
LanesCounted layout lanes tallies xs =
    (i : ℕ) (d : Lane) (t : Tally) → i < length lanes
    → (length (items_of_cpu (slice_index_or lanes i d).cpu xs) < 2 ^ 63)
    × IsTally layout (slice_index_or tallies i t) (items_of_cpu (slice_index_or lanes i d).cpu xs)

abbrev pub OwnCounted : Layout → ListSeen → List Keyed → Type 0
OwnCounted layout list xs = LanesCounted layout list.all list.tallies xs

-- the tallies count each lane's items, and no other processor has any
pub record AreCounted (layout : Layout) (lists : List ListSeen) (xs : List Keyed) : Type 0 where
  pub tallied : (k : ℕ) (e : ListSeen) → k < length lists → OwnCounted layout (slice_index_or lists k e) xs
  pub none_else : (cpu : ℕ) → All (λ lane. lane.cpu ≡ cpu → ⊥) (lanes_of lists) → items_of_cpu cpu xs ≡ []

-- a table tells the size of a processor's part, modulo 2^64
abbrev pub IsSized : Layout → List Keyed → List Part → ℕ → Type 0
IsSized layout xs table cpu =
    (p : Part) → (slice_index_or table cpu p).size ≡ (length (packed layout (items_of_cpu cpu xs)) * layout.page) % 2 ^ 64
