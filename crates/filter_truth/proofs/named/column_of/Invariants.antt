use Rattle.std.proofs.Common.{◌≡◌, map, take}
use Rattle.std.specs.Option.{option_copied, option_and_then}
use Rattle.trace_base.specs.Fields.{field_named}
use Rattle.filter_truth.proofs.named.column_of.Given as goal

abbrev pub invariant-loop-known : goal.invariant-loop-known
invariant-loop-known l = l.column ≡ map (λ o. option_and_then (field_named l.name) (option_copied o)) (take l.known-index l.fields)
