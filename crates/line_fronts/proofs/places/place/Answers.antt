use Rattle.std.proofs.Common.{◌+◌, ◌-◌, ◌*◌, arith}
use Rattle.line_fronts.proofs.PlaceDigits.{table_digits}
use Rattle.line_fronts.proofs.places.place.Goals as goal

pub returns-clause-value : goal.returns-clause-value
returns-clause-value c = table_digits c.table.result.now c.args.cpu (c.args.cpu * 4 + 4 - c.args.cpu * 4) c.table.ensures c.requires (omega arith)
