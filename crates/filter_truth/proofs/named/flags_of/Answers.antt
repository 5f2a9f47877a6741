use Rattle.std.specs.Option.{option_copied, is_some}
use Rattle.filter_truth.proofs.NamedSteps.{mapped_all}
use Rattle.filter_truth.proofs.named.flags_of.Goals as goal

pub returns : goal.returns
returns c =
    let l = c.loop-known in
    mapped_all option_copied is_some c.args.fields.now l.known-index l.flags.items c.loop-known-test.false l.invariant
