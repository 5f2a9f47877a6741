use Rattle.std.proofs.Common.{ℕ, max, ap, ◌∙◌}
use Rattle.round_print.proofs.Runs.{early_run, plain_front, plain_run}
use Rattle.round_print.proofs.heads.run_of.Goals as goal

pub returns-then-is_some-clause-run : goal.returns-then-is_some-clause-run
returns-then-is_some-clause-run c =
    early_run c.args.horizon.now c.args.heads.now c.args.i c.args.lane.now c.in-Some.most c.front_up_to.result c.max.result c.requires.some c.in-Some.ensures
    c.front_up_to.ensures.kept c.front_up_to.ensures.early c.max.ensures

pub returns-clause-run : goal.returns-clause-run
returns-clause-run c =
    plain_run c.args.horizon.now c.args.heads.now c.args.i c.args.lane.now c.in-Some.most c.max-2.result c.requires.some c.in-Some.ensures
    (c.max-2.ensures ∙ ap (λ (n : ℕ). max n 1) c.plain_front.ensures)

pub returns-clause-plain : goal.returns-clause-plain
returns-clause-plain c = λ first. plain_front c.args.lane.now.region.kept c.in-Some.most c.max-2.result (c.max-2.ensures ∙ ap (λ (n : ℕ). max n 1) c.plain_front.ensures)
