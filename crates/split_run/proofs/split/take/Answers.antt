use Rattle.split_run.proofs.Taken.{taken_is}
use Rattle.split_run.proofs.split.take.Goals as goal

pub returns-in-Fly-clause-taken : goal.returns-in-Fly-clause-taken
returns-in-Fly-clause-taken c =
    taken_is (λ taken. taken.items) c.args.one _ _ _ _ c.chosen.result c.in-Fly.is c.as_slice.ensures c.one_or_all.ensures c.chosen.ensures.chosen
