-- The name that was found in a text, as plain data.
use Rattle.std.specs.Prelude.{ℕ, ◌≤◌, List, length, take}
use Rattle.symbols.specs.declared.found.Found.{Found}
use Rattle.symbols.specs.NameMap.{Pair}
use Rattle.symbols.specs.Names.{EndsWith}

abbrev pub found_view : Found → Pair
found_view found = (found.key, take found.len found.from.now)

-- it stands in this text
pub record StandsIn (text : List ℕ) (found : Found) : Type 0 where
  pub ends : EndsWith text found.from.now
  pub inside : found.len ≤ length found.from.now
