use Rattle.std.proofs.Common.{ap, ◌∙◌}
use Rattle.trace_base.specs.Kept.{put_held}
use Rattle.trace_base.specs.TailView.{held}
use Rattle.fmt_forms.proofs.Gathering.{put_shown, nothing_joined}
use Rattle.fmt_print.specs.Sources.{source}
use Rattle.fmt_print.proofs.StepLemmas.{front_shown}
use Rattle.fmt_print.proofs.conversions.Printer.literal.Goals as goal

pub returns-then-len-le16 : goal.returns-then-len-le16
returns-then-len-le16 c =
    put_shown c.args.into.now c.put_front.new.self _ c.put_front.ensures.same_slice
    (c.put_front.ensures.held
    ∙ ap (put_held (held c.args.into.now))
    (front_shown (source c.args.self.now).text c.args.step.now.front c.args.step.now.literal c.in-Some.literal c.in-Some.is c.if-len-le16.true c.requires.0.0 c.requires.1))

pub returns-in-None : goal.returns-in-None
returns-in-None c = rw c.in-None.is (nothing_joined c.args.into.now)
