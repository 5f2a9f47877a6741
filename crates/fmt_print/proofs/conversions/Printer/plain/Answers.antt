use Rattle.std.proofs.Common.{[], refl}
use Rattle.fmt_print.specs.ArgumentView.{trees}
use Rattle.fmt_print.specs.Sources.{source}
use Rattle.fmt_eval.specs.Values.{given}
use Rattle.fmt_print.specs.Steps.{plain_spec}
use Rattle.fmt_print.proofs.ArgumentLemmas.{plain_some, plain_none}
use Rattle.fmt_print.proofs.StepLemmas.{takes_some, takes_none}
use Rattle.fmt_print.proofs.conversions.Printer.plain.Goals as goal

pub returns-in-Some : goal.returns-in-Some
returns-in-Some c =
    takes_some (source c.args.self.now) c.args.what (plain_spec c.args.length) (trees c.args.args.now) c.args.into.now _ _ _
    (plain_some (given c.args.self.now.rec.now) c.args.length (trees c.args.args.now) _ c.in-Some.ensures) c.content.ensures refl

pub returns-in-None : goal.returns-in-None
returns-in-None c =
    takes_none (source c.args.self.now) c.args.what (plain_spec c.args.length) (trees c.args.args.now) c.args.into.now [] (plain_none (given c.args.self.now.rec.now) c.args.length (trees c.args.args.now) c.in-None.ensures) refl
