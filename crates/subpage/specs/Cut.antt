-- Where malformed sub-buffers end the arranged items.
-- A processor's part is told by its number and its place in the file; the processors are the selected ones, and rise.
use Rattle.std.specs.Prelude.{ℕ, max, Bool, true, false, ◌&&◌, ◌||◌, nat_lt, nat_le, ◌==◌, IsTrue, All, Contains, if◌then◌else◌, List, map, fold, filter, filter_map, Option, Some, None, option_map}
use Rattle.std.specs.List.{reduce}
use Rattle.trace_base.specs.declared.layout.Layout.{Layout}
use Rattle.trace_base.specs.declared.part.Part.{Part}
use Rattle.subpage.specs.ItemData.{ItemData, item_time}
use Rattle.subpage.specs.Processor.{list_of, bad_of}
use Rattle.subpage.specs.Arrangement.{Keyed, arranged}

-- A malformed sub-buffer, by its processor and number, and the key of the last item before it on its processor. There
-- is no key where there is no such item: the very start.
pub record Cut : Type 0 where
  pub key : Option ℕ
  pub cpu : ℕ
  pub page : ℕ

-- the key of the last of a processor's items: their greatest time
abbrev pub last_key : List ItemData → Option ℕ
last_key items = reduce max (map item_time items)

-- the cut of a processor that has a malformed sub-buffer: of the first such one
abbrev pub own_cut : Layout → List ℕ → ℕ × Part → Option Cut
own_cut layout file part =
    option_map (λ page. record { key = last_key (list_of layout file part.1); cpu = part.0; page = page })
    (bad_of layout file part.1)

abbrev pub cuts_of : Layout → List ℕ → List (ℕ × Part) → List Cut
cuts_of layout file parts = filter_map (own_cut layout file) parts

-- by start first, then key, then processor
abbrev pub is_before : Option ℕ → ℕ → Option ℕ → ℕ → Bool
is_before None cpu None other = nat_lt cpu other
is_before None cpu (Some y) other = true
is_before (Some x) cpu None other = false
is_before (Some x) cpu (Some y) other = nat_lt x y || (x == y && nat_lt cpu other)

abbrev pub is_earlier : Cut → Cut → Bool
is_earlier a b = is_before a.key a.cpu b.key b.cpu

abbrev pub earlier : Option Cut → Cut → Option Cut
earlier None b = Some b
earlier (Some a) b = if is_earlier b a then Some b else Some a

-- The least of cuts: it is one of them, and none is earlier.
pub record IsLeast (cuts : List Cut) (cut : Cut) : Type 0 where
  pub one : Contains cuts cut
  pub least : All (λ other. ¬ (IsTrue (is_earlier other cut))) cuts

unfoldable pub cut_of : Layout → List ℕ → List (ℕ × Part) → Option Cut
cut_of layout file parts = fold earlier None (cuts_of layout file parts)

-- an item at or before a cut, or any item where there is none
abbrev pub is_up_to : Option Cut → Keyed → Bool
is_up_to None x = true
is_up_to (Some cut) x = reaches cut.key
  where
    reaches : Option ℕ → Bool
    reaches None = false
    reaches (Some key) = nat_lt x.key key || (x.key == key && nat_le x.cpu cut.cpu)

-- each processor's number with its items
abbrev pub lists_of : Layout → List ℕ → List (ℕ × Part) → List (ℕ × List ItemData)
lists_of layout file parts = map (λ part. (part.0, list_of layout file part.1)) parts

-- the arranged items up to the least cut
unfoldable pub reached_of : Layout → List ℕ → List (ℕ × Part) → List Keyed
reached_of layout file parts = filter (is_up_to (cut_of layout file parts)) (arranged (lists_of layout file parts))
