-- A code for items, by which a proof tells them apart.
use Rattle.std.specs.Prelude.{◌≡◌, ◌⊎◌, ℕ, List, Option}
use Rattle.std.specs.Coded.{Coded, code_by, coded_ℕ, coded_list, coded_option, coded×, coded⊎}
use mathlib.Core.Path.{refl}
use mathlib.Core.Logic.{inl, inr}
use Rattle.subpage.specs.ItemData.{ItemData, EventAt, LossAt}

abbrev Parts : Type 0
Parts = (ℕ × List ℕ) ⊎ (ℕ × Option ℕ)

abbrev parts_of : ItemData → Parts
parts_of (EventAt time payload) = inl (time, payload)
parts_of (LossAt time count) = inr (time, count)

abbrev item_of : Parts → ItemData
item_of (inl event) = EventAt event.0 event.1
item_of (inr loss) = LossAt loss.0 loss.1

pub item_again : (item : ItemData) → item_of (parts_of item) ≡ item
item_again (EventAt time payload) = refl
item_again (LossAt time count) = refl

abbrev pub coded_item : Coded ItemData
coded_item =
    code_by Parts (coded⊎ (coded× coded_ℕ (coded_list coded_ℕ)) (coded× coded_ℕ (coded_option coded_ℕ))) parts_of item_of item_again
