use Rattle.symbols.specs.Names.{names_view}
use Rattle.symbols.proofs.MapLemmas.{map_behind}
use Rattle.symbols.proofs.maps.placed.Goals as goal

pub returns-clause-map : goal.returns-clause-map
returns-clause-map c = map_behind (names_view c.in_ok-found.found) (names_view c.reverse.new.self) _ _ c.reverse.ensures.value c.in_ok-found.ensures.value c.in_ok-tasks.ensures
