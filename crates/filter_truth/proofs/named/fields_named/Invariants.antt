use Rattle.std.proofs.Common.{◌≡◌, map, take}
use Rattle.std.specs.Option.{option_copied}
use Rattle.filter_lang.specs.FilterView.{name_of}
use Rattle.filter_truth.specs.NamedView.{formats_of, named_by}
use Rattle.filter_truth.proofs.named.fields_named.Given as goal

abbrev pub invariant-loop-named : goal.invariant-loop-named
invariant-loop-named l = map option_copied l.fields.items ≡ map (λ n. named_by (map name_of l.events) n.format.now) (take l.named-index l.formats)
