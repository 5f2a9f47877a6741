use Rattle.std.proofs.Common.{ap, ◌∙◌}
use Rattle.fmt_forms.specs.Gathered.{gathered, joined}
use Rattle.fmt_forms.proofs.ZeroedLemmas.{few_zeros, zeroed_text}
use Rattle.fmt_forms.proofs.hexadecimal.show_zeroed.Goals as goal

pub show_in_width-requires : goal.show_in_width-requires
show_in_width-requires c = few_zeros c.args.form.now c.requires

pub returns : goal.returns
returns c = c.show_in_width.ensures ∙ ap (joined (gathered c.args.into.now)) (zeroed_text c.args.form.now c.args.n c.ranges.n.fits c.requires)
