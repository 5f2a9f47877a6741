use Rattle.std.proofs.Common.{rules, map}
use Rattle.std.specs.Option.{option_copied}
use Rattle.filter_lang.specs.FilterView.{filter_of}
use Rattle.filter_truth.specs.NamedView.{formats_of}
use Rattle.filter_truth.proofs.Conditions.{all_bound}
use Rattle.filter_truth.proofs.filter.bind_named.Goals as goal

pub returns : goal.returns
returns c =
    all_bound (filter_of c.args.filter.now) (formats_of c.args.formats.now) (record { named = c.in_ok-named.named; cond = c.in_ok-cond.cond; columns = c.in_ok-columns.columns })
    c.bind_cond.new.numbers (map option_copied c.in_ok-fields.fields.items) c.in_ok-cond.ensures (search rules) (search rules) (search rules)
