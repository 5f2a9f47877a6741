use Rattle.std.proofs.Common.{map}
use Rattle.std.specs.Option.{option_copied}
use Rattle.filter_truth.specs.Columns.{column_in}
use Rattle.filter_truth.proofs.NamedSteps.{mapped_all}
use Rattle.filter_truth.proofs.named.columns_of.Goals as goal

pub returns : goal.returns
returns c =
    let l = c.loop-name in
    mapped_all (λ name. name.now) (column_in (map option_copied c.args.fields.now)) c.args.names.now l.name-index l.columns.items c.loop-name-test.false l.invariant
