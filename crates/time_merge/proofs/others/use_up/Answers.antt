use Rattle.time_merge.proofs.others.use_up.Goals as goal

pub returns-clause-used : goal.returns-clause-used
returns-clause-used g c = record { mid = c.step.new.lane; stepped = c.step.ensures.used; skipped = c.skip_others.ensures.skipped }
