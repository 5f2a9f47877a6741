-- What adding an item, or a run of plain records, to an open sub-buffer comes to.
use Rattle.std.specs.Prelude.{◌≡◌, ℕ, ◌+◌, ◌≤◌, true, false, List, [], ◌∷◌, ◌++◌, length, Some}
use Rattle.trace_base.specs.declared.layout.Layout.{Layout}
use Rattle.subpage.specs.ItemData.{ItemData, last_time}
use Rattle.subpage.specs.Run.{IsRun}
use Rattle.page_write.specs.declared.added.Added.{Added}
use Rattle.page_write.specs.declared.added.Added.TheVariants as code
use Rattle.page_write.specs.PageBytes.{area_len, data_text, one_page}

-- The item goes in where one sub-buffer can tell it after those that are held; else the rule opens a further sub-buffer, and
-- those are held that were.
abbrev pub Adds : Layout → List ItemData → ItemData → (List ItemData → Type 0) → Added → Type 0
Adds layout held x Holds code.Added = (one_page layout (held ++ x ∷ []) ≡ true) × Holds (held ++ x ∷ [])
Adds layout held x Holds code.Full = (one_page layout (held ++ x ∷ []) ≡ false) × Holds held

-- These bytes are a run from the time of the last item that is held on. So a run that follows an item in its own sub-buffer
-- goes only after this very item: after another, or after a record that told no item, its first delta would be another.
pub record IsRunAfter (layout : Layout) (held : List ItemData) (bytes : List ℕ) (end : ℕ) (xs : List ItemData) : Type 0 where
  pub start : ℕ
  pub last : last_time held ≡ Some start
  pub run : IsRun layout.order start xs bytes end

pub record HasRunAfter (layout : Layout) (held : List ItemData) (bytes : List ℕ) (end : ℕ) : Type 0 where
  pub items : List ItemData
  pub run : IsRunAfter layout held bytes end items

-- so many bytes more have room
abbrev pub HasRoom : Layout → List ItemData → ℕ → Type 0
HasRoom layout held n = length (data_text layout held) + n ≤ area_len layout
