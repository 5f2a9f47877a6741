-- Items that matter, one after another, and where they end.
use Rattle.std.specs.Prelude.{ℕ, Bool, List, [], ◌∷◌, ◌++◌, filter, Option, option_map}
use Rattle.subpage.specs.ItemData.{ItemData}
use Rattle.subpage.specs.Arrangement.{Keyed}
use Rattle.subpage.specs.Cut.{Cut}
use Rattle.subpage.specs.CutPlaces.{place_of}
use Rattle.subpage.specs.declared.cut_place.CutPlace.{CutPlace}
use Rattle.time_merge.specs.Skipping.{by_item}

-- one more item, if it matters
abbrev pub and_item : (ℕ → ItemData → Bool) → List Keyed → Keyed → List Keyed
and_item matters xs x = xs ++ filter (by_item matters) (x ∷ [])

-- the processor and the sub-buffer of a cut
abbrev pub cut_place : Option Cut → Option CutPlace
cut_place cut = option_map place_of cut
