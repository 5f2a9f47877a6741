use Rattle.std.specs.Option.{option_copied, option_and_then}
use Rattle.trace_base.specs.Fields.{field_named}
use Rattle.filter_truth.proofs.NamedSteps.{mapped_all}
use Rattle.filter_truth.proofs.named.column_of.Goals as goal

pub returns : goal.returns
returns c =
    let l = c.loop-known in
    mapped_all option_copied (option_and_then (field_named c.args.name.now)) c.args.fields.now l.known-index l.column c.loop-known-test.false l.invariant
