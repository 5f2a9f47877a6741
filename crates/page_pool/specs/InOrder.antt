-- What a cursor says of the sub-buffer that is held.
use Rattle.std.specs.Prelude.{◌≡◌, ℕ, ◌+◌, ◌^◌, ◌<◌, ◌≤◌, max, List, [], ◌∷◌, length, drop, Option, Some, None, unwrap_or}
use Rattle.std.specs.Coded.{Coded, codes, prop_coded}
use Rattle.std.proofs.Props.{props}
use Rattle.trace_base.specs.declared.layout.Layout.{Layout}
use Rattle.subpage.specs.declared.mark.Mark.{Mark}
use Rattle.subpage.specs.ItemData.{ItemData, item_time}
use Rattle.subpage.specs.Page.{items}
use Rattle.subpage.specs.Marks.{IsInside, IsMark, item_between, items_from, mark_of}
use Rattle.page_pool.specs.declared.cursor.Ahead.{Ahead}
use Rattle.page_pool.specs.declared.cursor.Cursor.{Cursor}
use Rattle.page_pool.specs.declared.cursor.LaneState.TheVariants.{Held}
use Rattle.page_pool.specs.ItemCode.{coded_item}

-- the key of an item that follows those whose greatest time is high, if there are any
abbrev pub key_behind : Option ℕ → ItemData → ℕ
key_behind high item = max (unwrap_or high 0) (item_time item)

-- the item at a place of a sub-buffer, by what is known of it
abbrev pub item_ahead : List ℕ → Mark → Ahead → ItemData
item_ahead page mark ahead = item_between page mark ahead.behind ahead.payload

-- The first item at a place of a sub-buffer, after items whose greatest time is high: its key, the place after it, and
-- its payload.
pub record HasAhead (layout : Layout) (page : List ℕ) (mark : Mark) (high : Option ℕ) (ahead : Ahead) : Type 0 where
  pub items : items_from layout page mark ≡ item_ahead page mark ahead ∷ items_from layout page (mark_of ahead.behind)
  pub key : ahead.key ≡ key_behind high (item_ahead page mark ahead)
  pub behind : IsMark layout page (mark_of ahead.behind)
  pub inside : IsInside page ahead.payload

-- the first item there, or that there is none
abbrev pub TellsAhead : Layout → List ℕ → Mark → Option ℕ → Option Ahead → Type 0
TellsAhead layout page mark high None = items_from layout page mark ≡ []
TellsAhead layout page mark high (Some ahead) = HasAhead layout page mark high ahead

pub tells_prop : (layout : Layout) (page : List ℕ) (mark : Mark) (high : Option ℕ) (ahead : Option Ahead)
    → IsProp (TellsAhead layout page mark high ahead)
tells_prop layout page mark high None = hlevel (props, codes, coded_item)
tells_prop layout page mark high (Some ahead) = hlevel (props, codes, coded_item)

-- the items of a sub-buffer, none where it is malformed
abbrev pub all_items : Layout → List ℕ → List ItemData
all_items layout page = unwrap_or (items layout page) []

-- The buffer is a sub-buffer that is not malformed, the place in it is after so many of its items, the item there is known,
-- and the next one to load is that after it.
pub record HoldsPage (layout : Layout) (page : List ℕ) (cursor : Cursor) : Type 0 where
  pub all_are : items layout page ≡ Some (all_items layout page)
  pub few : length (all_items layout page) < 2 ^ 32
  pub used_up : cursor.at ≤ length (all_items layout page)
  pub mark : IsMark layout page cursor.mark
  pub left : items_from layout page cursor.mark ≡ drop cursor.at (all_items layout page)
  pub ahead : TellsAhead layout page cursor.mark cursor.high cursor.ahead
  pub next : cursor.next ≡ cursor.held + 1

-- In order, whatever the file: the buffer is as long as a sub-buffer, and holds one in the state Held.
pub record IsInOrder (layout : Layout) (page : List ℕ) (cursor : Cursor) : Type 0 where
  pub long : length page ≡ layout.page
  pub held : cursor.state ≡ Held → HoldsPage layout page cursor

-- it has one proof at most, and so a code
pub in_order_prop : (layout : Layout) (page : List ℕ) (cursor : Cursor) → IsProp (IsInOrder layout page cursor)
in_order_prop layout page cursor = hlevel (props, codes, coded_item, tells_prop)

abbrev pub in_order_coded : (layout : Layout) (page : List ℕ) (cursor : Cursor) → Coded (IsInOrder layout page cursor)
in_order_coded layout page cursor = prop_coded (in_order_prop layout page cursor)
