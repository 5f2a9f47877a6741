-- The two passes over a processor's items: one for the number of their sub-buffers, and one for the bytes.
use Rattle.std.specs.Prelude.{◌≡◌, ℕ, List, [], ◌∷◌, ◌++◌, length, Option}
use Rattle.std.specs.List.{flat_map}
use Rattle.trace_base.specs.declared.layout.Layout.{Layout}
use Rattle.trace_outside.specs.Writing.{Gained, GainedPrefix}
use Rattle.subpage.specs.ItemData.{ItemData}
use Rattle.page_write.specs.Fill.{IsFill}
use Rattle.page_write.specs.Pack.{packed, pack}
use Rattle.page_write.specs.SoFar.{IsSoFar}
use Rattle.page_write.specs.PageBytes.{page_of}
use Rattle.page_write.specs.declared.count.PageCount.{PageCount}

-- the number of sub-buffers of the items so far
pub record IsPageCount (layout : Layout) (count : PageCount) (xs : List ItemData) : Type 0 where
  pub closed : List (List ItemData)
  pub held : List ItemData
  pub so_far : IsSoFar layout xs closed held
  pub fill : IsFill layout count.room held
  pub pages : count.pages ≡ length (packed layout xs)
  pub none : held ≡ [] → count.pages ≡ 0

-- since `before` the sink gained the sub-buffers of the items so far, but for the open one, which holds these
pub record HasPages (layout : Layout) (before now : Option (List ℕ)) (xs held : List ItemData) : Type 0 where
  pub closed : List (List ItemData)
  pub so_far : IsSoFar layout xs closed held
  pub gained : Gained before now (flat_map (page_of layout) closed)

-- a further item is packed
abbrev pub GoesOn : Layout → ItemData → Option (List ℕ) → List ItemData → Option (List ℕ) → List ItemData → Type 0
GoesOn layout x old held now held_now =
    (before : Option (List ℕ)) (xs : List ItemData) → HasPages layout before old xs held → HasPages layout before now (xs ++ x ∷ []) held_now

-- after a fault at an item the sink has a prefix of what it would have gained, whatever follows
abbrev pub StopsAt : Layout → ItemData → Option (List ℕ) → List ItemData → Option (List ℕ) → Type 0
StopsAt layout x old held now =
    (before : Option (List ℕ)) (xs ys : List ItemData) → HasPages layout before old xs held → GainedPrefix before now (pack layout (xs ++ x ∷ ys))

-- the sink has all sub-buffers of the items
abbrev pub Ends : Layout → Option (List ℕ) → List ItemData → Option (List ℕ) → Type 0
Ends layout old held now =
    (before : Option (List ℕ)) (xs : List ItemData) → HasPages layout before old xs held → Gained before now (pack layout xs)

-- after a fault at the last one it has a prefix of them
abbrev pub EndsShort : Layout → Option (List ℕ) → List ItemData → Option (List ℕ) → Type 0
EndsShort layout old held now =
    (before : Option (List ℕ)) (xs : List ItemData) → HasPages layout before old xs held → GainedPrefix before now (pack layout xs)
