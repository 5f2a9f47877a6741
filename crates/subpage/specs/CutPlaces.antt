-- The places of cuts, without their keys.
use Rattle.std.specs.Prelude.{ℕ, Option}
use Rattle.subpage.specs.Cut.{Cut}
use Rattle.subpage.specs.declared.cut_place.CutPlace.{CutPlace}

abbrev pub place_at : ℕ → ℕ → CutPlace
place_at cpu page = record { cpu = cpu; page = page }

abbrev pub place_of : Cut → CutPlace
place_of cut = place_at cut.cpu cut.page

-- the cut of this key at a place
abbrev pub cut_at : Option ℕ → CutPlace → Cut
cut_at key place = record { key = key; cpu = place.cpu; page = place.page }
