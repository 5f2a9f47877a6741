-- The packing of items into sub-buffers.
use Rattle.std.specs.Prelude.{◌≡◌, true, false, if◌then◌else◌, ℕ, List, [], ◌∷◌, ◌++◌}
use Rattle.std.specs.List.{flat_map}
use Rattle.trace_base.specs.declared.layout.Layout.{Layout}
use Rattle.subpage.specs.ItemData.{ItemData}
use Rattle.page_write.specs.PageBytes.{one_page, page_of}

-- one sub-buffer cannot tell the first of the further items besides
abbrev pub IsEnough : Layout → List ItemData → List ItemData → Type 0
IsEnough layout page [] = Unit {0}
IsEnough layout page (x ∷ xs) = one_page layout (page ++ x ∷ []) ≡ false

-- The items stand in sub-buffers one after another, and each takes as many as one sub-buffer can tell.
pub data Packed (layout : Layout) : List ItemData → List (List ItemData) → Type 0 where
  nothing : Packed layout [] []
  begins_with : (x : ItemData) (xs rest : List ItemData) (pages : List (List ItemData))
      → one_page layout (x ∷ xs) ≡ true → IsEnough layout (x ∷ xs) rest → Packed layout rest pages
      → Packed layout (x ∷ xs ++ rest) ((x ∷ xs) ∷ pages)

-- The same, computed, after the items that an open sub-buffer holds.
unfoldable pub packed_behind : Layout → List ItemData → List ItemData → List (List ItemData)
packed_behind layout held [] = held ∷ []
packed_behind layout held (x ∷ xs) =
    if one_page layout (held ++ x ∷ []) then packed_behind layout (held ++ x ∷ []) xs
    else held ∷ packed_behind layout (x ∷ []) xs

unfoldable pub packed : Layout → List ItemData → List (List ItemData)
packed layout [] = []
packed layout (x ∷ xs) = packed_behind layout (x ∷ []) xs

-- the bytes of the sub-buffers
unfoldable pub pack : Layout → List ItemData → List ℕ
pack layout items = flat_map (page_of layout) (packed layout items)
