use Rattle.std.proofs.Common.{◌∙◌, length, ap, sym, arith}
use Rattle.dat_header.proofs.PartialSteps.{steps_none, steps_some}
use Rattle.dat_header.proofs.partial.read_cmdlines.Goals as goal

pub returns-then-at-size-clause-short : goal.returns-then-at-size-clause-short
returns-then-at-size-clause-short g c = let long = ap length c.no_text.ensures in omega (arith, long)

pub returns-then-at-size-clause-steps : goal.returns-then-at-size-clause-steps
returns-then-at-size-clause-steps g c =
    steps_none c.args.order c.args.at c.no_text.result _ (g.met.F.File.size_is c.args.file.now) (c.if-at-size.true ∙ c.len-size.ensures) c.no_text.ensures

pub returns-else-at-size-clause-steps : goal.returns-else-at-size-clause-steps
returns-else-at-size-clause-steps g c =
    steps_some c.args.order c.args.at _ _ c.read_long_text.result (g.met.F.File.size_is c.args.file.now) (λ ends. c.if-at-size.false (ends ∙ sym c.len-size.ensures)) c.read_long_text.ensures.steps
