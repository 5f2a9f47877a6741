use Rattle.std.proofs.Common.{[], refl}
use Rattle.fmt_print.specs.ArgumentView.{trees}
use Rattle.fmt_print.specs.Sources.{source}
use Rattle.fmt_print.specs.Views.{taken_view}
use Rattle.fmt_print.proofs.StepLemmas.{takes_some, takes_none}
use Rattle.fmt_print.proofs.conversions.Printer.formed.Goals as goal

pub returns-in-Some : goal.returns-in-Some
returns-in-Some c = takes_some (source c.args.self.now) c.args.what.now c.args.spec.now (trees c.args.args.now) c.args.into.now _ _ (taken_view c.in-Some.of) c.in-Some.ensures c.content.ensures refl

pub returns-in-None : goal.returns-in-None
returns-in-None c = takes_none (source c.args.self.now) c.args.what.now c.args.spec.now (trees c.args.args.now) c.args.into.now [] c.in-None.ensures refl
