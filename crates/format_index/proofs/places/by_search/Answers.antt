use Rattle.format_index.proofs.Positions.{format_searched}
use Rattle.format_index.proofs.places.by_search.Goals as goal

pub returns-clause-format : goal.returns-clause-format
returns-clause-format c = format_searched c.args.formats.now c.in_ok-place.place c.args.id c.in_ok-format.format.now c.in_ok-place.ensures.place c.in_ok-format.ensures
