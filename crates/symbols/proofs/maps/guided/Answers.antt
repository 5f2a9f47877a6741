use Rattle.symbols.specs.declared.lines.Form.TheVariants.{Kallsyms}
use Rattle.symbols.specs.Names.{names_view}
use Rattle.symbols.proofs.MapLemmas.{map_here}
use Rattle.symbols.proofs.maps.guided.Goals as goal

pub returns : goal.returns
returns c = map_here Kallsyms c.args.kallsyms (names_view c.in_ok-names_in.field-0) _ c.in_ok-names_in.ensures.value c.in_ok-symbols.ensures
