-- What a sub-buffer that was asked for is: the position before its items, or none where it is malformed or not there.
use Rattle.std.specs.Prelude.{◌≡◌, ℕ, ◌^◌, ◌<◌, true, List, length, option_map, IfSome, Option, Some, None}
use Rattle.trace_base.specs.declared.layout.Layout.{Layout}
use Rattle.trace_base.specs.declared.part.Part.{Part}
use Rattle.subpage.specs.declared.mark.Mark.{Mark}
use Rattle.subpage.specs.Page.{items}
use Rattle.subpage.specs.Marks.{items_from, IsMark}
use Rattle.subpage.specs.Processor.{is_there, items_at, page_bytes}

-- the buffer holds a sub-buffer that is not malformed, or there is none to hold
abbrev pub HoldsItems : Layout → List ℕ → Option Mark → Type 0
HoldsItems layout page None = Unit {0}
HoldsItems layout page (Some mark) =
    IsMark layout page mark
    × (items layout page ≡ Some (items_from layout page mark))
    × (length (items_from layout page mark) < 2 ^ 32)

-- its items are those of sub-buffer k of the part
abbrev pub IsFetched : Layout → List ℕ → Part → ℕ → List ℕ → Option Mark → Type 0
IsFetched layout file part k page found = items_at layout file part k ≡ option_map (λ mark. items_from layout page mark) found

-- its bytes are those of sub-buffer k of the part
abbrev pub IsOwnPage : Layout → List ℕ → Part → ℕ → List ℕ → Option Mark → Type 0
IsOwnPage layout file part k page found =
    IfSome found (λ mark. (is_there layout file part k ≡ true) × (page ≡ page_bytes layout file part k))
