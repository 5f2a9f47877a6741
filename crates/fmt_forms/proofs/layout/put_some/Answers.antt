use Rattle.std.proofs.Common.{rules}
use Rattle.fmt_forms.proofs.PutLemmas.{put_empty}
use Rattle.fmt_forms.proofs.layout.put_some.Goals as goal

pub returns-else-not-is_empty-clause-value : goal.returns-else-not-is_empty-clause-value
returns-else-not-is_empty-clause-value c = put_empty c.args.into.now c.args.piece.now (search rules)
