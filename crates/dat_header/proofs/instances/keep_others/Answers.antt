use Rattle.std.proofs.Common.{not, rules}
use Rattle.std.proofs.lemmas.Fn.{filter_same}
use Rattle.dat_options.specs.declared.option.Opt.{Opt}
use Rattle.dat_header.specs.Written.{is_instance}
use Rattle.dat_header.proofs.instances.keep_others.Goals as goal

pub returns : goal.returns
returns c = filter_same _ (λ (option : Opt). not (is_instance option)) _ (λ x b q k. search rules) _ _ c.retain.ensures.filtered
