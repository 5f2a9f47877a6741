use Rattle.std.proofs.Common.{◌∙◌}
use Rattle.split_tests.proofs.tests.runs.run_after_first.Goals as goal

pub pack_run-requires-clause-held : goal.pack_run-requires-clause-held
pack_run-requires-clause-held c = c.step.ensures.used.page.state ∙ c.requires.held
