-- Keys that go on after items that were used up.
use Rattle.std.specs.Prelude.{ℕ, List, [], ◌∷◌, Option, Some, None, unwrap_or}
use Rattle.subpage.specs.ItemData.{ItemData}
use Rattle.subpage.specs.Arrangement.{Keyed, keyed_from}
pub use Rattle.page_pool.specs.InOrder.{key_behind}

-- a processor's items that follow those, with their keys
abbrev pub keyed_behind : ℕ → Option ℕ → List ItemData → List Keyed
keyed_behind cpu high items = keyed_from cpu (unwrap_or high 0) items

abbrev pub first_of : {X : Type 0} → List X → Option X
first_of [] = None
first_of (x ∷ xs) = Some x
