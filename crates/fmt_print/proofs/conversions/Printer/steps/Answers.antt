use Rattle.std.proofs.Common.{arith}
use Rattle.std.proofs.lemmas.List.Elements.{All-get_or}
use Rattle.fmt_print.specs.ArgumentView.{trees}
use Rattle.fmt_print.specs.Sources.{source}
use Rattle.fmt_print.specs.Steps.{IsPlaced}
use Rattle.fmt_print.proofs.StepLemmas.{printed_more, printed_all}
use Rattle.fmt_print.proofs.conversions.Printer.steps.Goals as goal

pub step-left-requires : goal.step-left-requires
step-left-requires c = All-get_or (IsPlaced (source c.args.self.now).text) c.steps-steps.result.now c.loop-step.step-index _ c.loop-step-test.true c.steps-steps.ensures.within

pub loop-step-preserved : goal.loop-step-preserved
loop-step-preserved c =
    printed_more (source c.args.self.now) _ c.loop-step.into c.step-left.new.into c.steps-steps.result.now c.loop-step.step-index _ (trees c.loop-step.left.now) c.step-left.result.now c.loop-step-test.true c.step-left.ensures c.loop-step.invariant

pub returns : goal.returns
returns c = printed_all (source c.args.self.now) _ c.loop-step.into c.steps-steps.result.now c.loop-step.step-index (trees c.loop-step.left.now) (omega arith) c.loop-step.invariant
