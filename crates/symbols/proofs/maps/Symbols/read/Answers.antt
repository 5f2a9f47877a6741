use Rattle.symbols.specs.declared.lines.Form.TheVariants.{Printk}
use Rattle.symbols.specs.Names.{names_view}
use Rattle.symbols.proofs.MapLemmas.{map_here, maps_are}
use Rattle.symbols.proofs.maps.Symbols.read.Goals as goal

pub returns-clause-maps : goal.returns-clause-maps
returns-clause-maps c = record {
  symbols_are = c.in_ok-symbols.ensures;
  printk_are = map_here Printk c.args.printk (names_view c.in_ok-names_in.field-0) _ c.in_ok-names_in.ensures.value c.in_ok-printk.ensures;
  tasks_are = c.in_ok-tasks.ensures.map;
}

pub returns-clause-exact : goal.returns-clause-exact
returns-clause-exact c = maps_are c.args.kallsyms c.args.printk c.args.cmdlines _ (returns-clause-maps c)
