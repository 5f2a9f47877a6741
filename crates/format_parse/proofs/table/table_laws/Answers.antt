use Rattle.format_parse.proofs.Tables.{laws}
use Rattle.format_parse.proofs.table.table_laws.Goals as goal

pub returns : goal.returns
returns c = laws
