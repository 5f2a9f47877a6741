use Rattle.std.proofs.Common.{map}
use Rattle.std.specs.Option.{option_copied}
use Rattle.filter_lang.specs.FilterView.{name_of}
use Rattle.filter_truth.specs.NamedView.{named_by}
use Rattle.filter_truth.specs.declared.named_format.NamedFormat.{NamedFormat}
use Rattle.filter_truth.proofs.NamedSteps.{mapped_all}
use Rattle.filter_truth.proofs.named.fields_named.Goals as goal

pub returns : goal.returns
returns c =
    let l = c.loop-named in
    mapped_all (λ (n : NamedFormat). n.format.now) (named_by (map name_of c.args.events.now)) c.args.formats.now l.named-index (map option_copied l.fields.items) c.loop-named-test.false l.invariant
