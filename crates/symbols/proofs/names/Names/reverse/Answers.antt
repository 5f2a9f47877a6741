use Rattle.symbols.proofs.NameLemmas.{turned, within_turned}
use Rattle.symbols.proofs.names.Names.reverse.Goals as goal

pub returns-clause-value : goal.returns-clause-value
returns-clause-value c = turned c.args.self.now.text c.args.self.now.spots.items c.reverse.new.self.items c.reverse.ensures.items

pub returns-clause-inside : goal.returns-clause-inside
returns-clause-inside c = within_turned c.args.self.now.text c.args.self.now.spots.items c.reverse.new.self.items c.requires c.reverse.ensures.items
