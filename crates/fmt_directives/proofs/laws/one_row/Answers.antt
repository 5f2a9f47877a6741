use Rattle.fmt_directives.proofs.Spellings.{one_spelling}
use Rattle.fmt_directives.proofs.laws.one_row.Goals as goal

pub returns : goal.returns
returns c text ds es s t = one_spelling text 0 ds es s t
