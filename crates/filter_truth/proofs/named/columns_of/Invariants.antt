use Rattle.std.proofs.Common.{◌≡◌, map, take}
use Rattle.std.specs.Option.{option_copied}
use Rattle.filter_truth.specs.Columns.{column_in}
use Rattle.filter_truth.proofs.named.columns_of.Given as goal

abbrev pub invariant-loop-name : goal.invariant-loop-name
invariant-loop-name l = l.columns.items ≡ map (λ name. column_in (map option_copied l.fields) name.now) (take l.name-index l.names)
