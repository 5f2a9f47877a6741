use Rattle.std.proofs.Common.{rules}
use Rattle.format_parse.proofs.table.FormatTable.by_id.Goals as goal
use Rattle.format_parse.proofs.Ids.{place_of_id}

pub returns-clause-place : goal.returns-clause-place
returns-clause-place c = search (rules, c.get_index_of.ensures.index, c.self.view_is, c.self.invariant.0, place_of_id c.self.inside.by_id.entries c.args.id c.self.invariant.0)
