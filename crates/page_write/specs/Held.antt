-- The items that an open sub-buffer holds.
use Rattle.std.specs.Prelude.{◌≡◌, ◌<◌, ◌+◌, ◌^◌, ℕ, false, true, All, List, [], ◌∷◌, ◌++◌, length, take, drop, Option, Some, None, unwrap_or}
use Rattle.trace_base.specs.declared.layout.Layout.{Layout}
use Rattle.trace_base.specs.Number.{bytes_of}
use Rattle.subpage.specs.ItemData.{ItemData, EventAt, LossAt, item_time}
use Rattle.subpage.specs.Reading.{walk}
use Rattle.page_write.specs.declared.open_page.OpenPage.{OpenPage}
use Rattle.page_write.specs.declared.open_page.Lost.{Lost}
use Rattle.page_write.specs.declared.open_page.Lost.TheVariants as code
use Rattle.page_write.specs.Fill.{end_from}
use Rattle.page_write.specs.PageBytes.{records, one_page, IsPackable}

-- the loss that an item is
abbrev pub lost_of : ItemData → Lost
lost_of (EventAt time payload) = code.Nothing
lost_of (LossAt time None) = code.Uncounted
lost_of (LossAt time (Some count)) = code.Counted count

abbrev pub lost_items : ℕ → Lost → List ItemData
lost_items time code.Nothing = []
lost_items time code.Uncounted = LossAt time None ∷ []
lost_items time (code.Counted count) = LossAt time (Some count) ∷ []

-- the bits of the commit word for a loss, and the bytes of its number
abbrev pub lost_bits : Lost → ℕ
lost_bits code.Nothing = 0
lost_bits code.Uncounted = 2 ^ 31
lost_bits (code.Counted count) = 2 ^ 31 + 2 ^ 30

abbrev pub lost_text : Layout → Lost → List ℕ
lost_text layout code.Nothing = []
lost_text layout code.Uncounted = []
lost_text layout (code.Counted count) = bytes_of layout.order layout.commit_size count

abbrev pub LostFits : Layout → Lost → Type 0
LostFits layout code.Nothing = Unit {0}
LostFits layout code.Uncounted = Unit {0}
LostFits layout (code.Counted count) = count < 256 ^ layout.commit_size

-- the records that are written
abbrev pub written : Layout → OpenPage → List ℕ → List ℕ
written layout page bytes = take page.used (drop layout.data_at bytes)

-- the items that the loss and the records tell
unfoldable pub told : Layout → Option OpenPage → List ℕ → List ItemData
told layout None bytes = []
told layout (Some page) bytes = lost_items page.start page.lost ++ unwrap_or (walk layout.order page.start (written layout page bytes)) []

-- the numbers and the records are those of these items
pub record HoldsAll (layout : Layout) (page : OpenPage) (bytes : List ℕ) (x : ItemData) (xs : List ItemData) : Type 0 where
  pub start : page.start ≡ item_time x
  pub time : page.time ≡ end_from (item_time x) xs
  pub lost : page.lost ≡ lost_of x
  pub used : page.used ≡ length (records layout (x ∷ xs))
  pub records_are : written layout page bytes ≡ records layout (x ∷ xs)
  pub one : one_page layout (x ∷ xs) ≡ true
  pub packable : All (IsPackable layout) (x ∷ xs)

abbrev pub Holds : Layout → Option OpenPage → List ℕ → List ItemData → Type 0
Holds layout None bytes xs = xs ≡ []
Holds layout (Some page) bytes [] = ⊥
Holds layout (Some page) bytes (x ∷ xs) = HoldsAll layout page bytes x xs

-- what adding an item to the items that are held comes to
abbrev pub AddsTo : Layout → List ItemData → ItemData → List ℕ → List ℕ → Option OpenPage → Type 0
AddsTo layout held x old new None = (one_page layout (held ++ x ∷ []) ≡ false) × (new ≡ old)
AddsTo layout held x old new (Some page) = (one_page layout (held ++ x ∷ []) ≡ true) × Holds layout (Some page) new (held ++ x ∷ [])
