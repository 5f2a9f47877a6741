use Rattle.format_index.proofs.Positions.{position_here, format_found}
use Rattle.format_index.proofs.places.at_place.Goals as goal

pub returns-then-format-id-clause-place : goal.returns-then-format-id-clause-place
returns-then-format-id-clause-place c = position_here c.args.formats.now c.args.place c.args.id c.in_ok-format.format.now c.len.ensures.differ c.in_ok-format.ensures c.if-format-id.true

pub returns-then-format-id-clause-format : goal.returns-then-format-id-clause-format
returns-then-format-id-clause-format c = format_found c.args.formats.now c.args.place c.args.id c.in_ok-format.format.now c.len.ensures.differ c.in_ok-format.ensures c.if-format-id.true
