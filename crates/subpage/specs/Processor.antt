-- The items of one processor, whose sub-buffers stand one after another in its part of the file.
-- Source: trace-cmd.dat.v6(5), the table after `flyrecord`.
use Rattle.std.specs.Prelude.{ℕ, ◌+◌, ◌*◌, ◌^◌, Bool, ◌&&◌, nat_le, is_some, is_none, unwrap_or, if◌then◌else◌, List, [], map, length, take, drop, Option, None}
use Rattle.std.specs.Int.{div_ceil}
use Rattle.std.specs.List.{flat_map, take_while, position_from, range_with_len}
use Rattle.trace_base.specs.declared.layout.Layout.{Layout}
use Rattle.trace_base.specs.declared.part.Part.{Part}
use Rattle.subpage.specs.ItemData.{ItemData}
use Rattle.subpage.specs.Page.{items}

-- the place in the file after a part's sub-buffer k
abbrev pub page_end : Layout → Part → ℕ → ℕ
page_end layout part k = part.offset + (k + 1) * layout.page

-- it stands wholly in the part and in the file, and at places of 64 bits
abbrev pub is_there : Layout → List ℕ → Part → ℕ → Bool
is_there layout file part k =
    nat_le ((k + 1) * layout.page) part.size
    && nat_le (page_end layout part k) (length file)
    && nat_le (page_end layout part k) (2 ^ 64)

abbrev pub page_bytes : Layout → List ℕ → Part → ℕ → List ℕ
page_bytes layout file part k = take layout.page (drop (part.offset + k * layout.page) file)

-- the items of sub-buffer k: none where it is malformed, or not there
unfoldable pub items_at : Layout → List ℕ → Part → ℕ → Option (List ItemData)
items_at layout file part k = if is_there layout file part k then items layout (page_bytes layout file part k) else None

abbrev pub page_count : Layout → Part → ℕ
page_count layout part = div_ceil part.size layout.page

-- the items of n sub-buffers, from sub-buffer k on
abbrev pub pages_from : Layout → List ℕ → Part → ℕ → ℕ → List (Option (List ItemData))
pages_from layout file part k n = map (items_at layout file part) (range_with_len k n)

-- the items before the first malformed sub-buffer, joined
abbrev pub joined : List (Option (List ItemData)) → List ItemData
joined pages = flat_map (λ items. unwrap_or items []) (take_while is_some pages)

unfoldable pub list_of : Layout → List ℕ → Part → List ItemData
list_of layout file part = joined (pages_from layout file part 0 (page_count layout part))

-- the first malformed sub-buffer
unfoldable pub bad_of : Layout → List ℕ → Part → Option ℕ
bad_of layout file part = position_from is_none 0 (pages_from layout file part 0 (page_count layout part))
