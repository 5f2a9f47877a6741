use Rattle.std.proofs.Common.{◌≡◌, map, take}
use Rattle.std.specs.Option.{option_copied, is_some}
use Rattle.filter_truth.proofs.named.flags_of.Given as goal

abbrev pub invariant-loop-known : goal.invariant-loop-known
invariant-loop-known l = l.flags.items ≡ map (λ o. is_some (option_copied o)) (take l.known-index l.fields)
