use Rattle.std.proofs.Common.{rules}
use Rattle.format_parse.proofs.table.FormatTable.add.Goals as goal
use Rattle.format_parse.proofs.Ids.{any_of_id, values_put, keys_put, differ_put}

pub returns-then-contains_key-clause-added : goal.returns-then-contains_key-clause-added
returns-then-contains_key-clause-added c = search (rules, any_of_id c.self.inside.by_id.entries c.args.format.id c.self.invariant.0)

pub invariant_of-self-2 : goal.invariant_of-self-2
invariant_of-self-2 c = (
  search (rules, keys_put c.self.inside.by_id c.insert.new.self c.args.format),
  search (rules, differ_put c.self.inside.by_id c.insert.new.self c.args.format),
)

pub returns-clause-added : goal.returns-clause-added
returns-clause-added c = search (rules, any_of_id c.self.inside.by_id.entries c.args.format.id c.self.invariant.0)

pub returns-clause-formats : goal.returns-clause-formats
returns-clause-formats c = search (rules, values_put c.self.inside.by_id c.insert.new.self c.args.format)
