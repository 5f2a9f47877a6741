-- A processor's sub-buffers in a file.
use Rattle.std.specs.Prelude.{◌≡◌, ℕ, ◌+◌, ◌*◌, ◌^◌, ◌<◌, ◌≤◌, List, [], ◌∷◌, ◌++◌, length, Some}
use Rattle.std.specs.List.{flat_map}
use Rattle.trace_base.specs.declared.layout.Layout.{Layout}
use Rattle.trace_base.specs.declared.part.Part.{Part}
use Rattle.trace_base.specs.Parts.{part_of}
use Rattle.subpage.specs.ItemData.{ItemData}
use Rattle.subpage.specs.Page.{items}
use Rattle.page_write.specs.PageBytes.{page_of}
use Rattle.page_write.specs.Pack.{pack, packed}

-- The sub-buffer of a row of items is as long as the layout says, and tells just these items.
pub record TellsBack (layout : Layout) (row : List ItemData) : Type 0 where
  pub long : length (page_of layout row) ≡ layout.page
  pub told : items layout (page_of layout row) ≡ Some row

-- a part can tell how many bytes the items take
abbrev pub FitsPart : Layout → List ItemData → Type 0
FitsPart layout items = length (pack layout items) < 2 ^ 64

-- The part has just the sub-buffers of the items, and ends at a place of 64 bits.
pub record IsPlaced (layout : Layout) (file : List ℕ) (part : Part) (items : List ItemData) : Type 0 where
  pub before : List ℕ
  pub after : List ℕ
  pub whole : file ≡ before ++ (pack layout items ++ after)
  pub offset : length before ≡ part.offset
  pub size : part.size ≡ length (packed layout items) * layout.page
  pub places : part.offset + part.size ≤ 2 ^ 64

-- The parts of processors' sub-buffers that follow one another from a place on, their numbers modulo 2^64.
unfoldable pub parts_from : Layout → ℕ → List (List ItemData) → List Part
parts_from layout at [] = []
parts_from layout at (xs ∷ lists) =
    let size = length (packed layout xs) * layout.page in
    part_of at size ∷ parts_from layout (at + size) lists

-- their bytes
unfoldable pub data_of : Layout → List (List ItemData) → List ℕ
data_of layout lists = flat_map (pack layout) lists
