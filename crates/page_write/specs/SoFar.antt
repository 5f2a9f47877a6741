-- A packing on its way.
use Rattle.std.specs.Prelude.{◌≡◌, List, [], ◌∷◌, ◌++◌}
use Rattle.trace_base.specs.declared.layout.Layout.{Layout}
use Rattle.subpage.specs.ItemData.{ItemData}
use Rattle.page_write.specs.Pack.{packed, packed_behind}

-- the open sub-buffer, if there is one
abbrev pub open_page : List ItemData → List (List ItemData)
open_page [] = []
open_page (h ∷ hs) = (h ∷ hs) ∷ []

-- the packing of further items after those that the open sub-buffer holds, if one is open
unfoldable pub packed_on : Layout → List ItemData → List ItemData → List (List ItemData)
packed_on layout [] ys = packed layout ys
packed_on layout (h ∷ hs) ys = packed_behind layout (h ∷ hs) ys

-- Of the items so far, those of the sub-buffers that are closed and those that the open one holds: whatever follows, what is
-- left is packed after them.
pub record IsSoFar (layout : Layout) (xs : List ItemData) (closed : List (List ItemData)) (held : List ItemData) : Type 0 where
  pub goes_on : (ys : List ItemData) → packed layout (xs ++ ys) ≡ closed ++ packed_on layout held ys
