use Rattle.run_endings.specs.Selection.{has}
use Rattle.run_endings.proofs.Chosen.{chosen_rise}
use Rattle.split_run.proofs.Taken.{taken_rise}
use Rattle.trace_run.proofs.laws.selection_rises.Goals as goal

pub returns-clause-chosen : goal.returns-clause-chosen
returns-clause-chosen c = λ selection parts. (chosen_rise (λ part. has selection part.0) 0 parts).1

pub returns-clause-taken : goal.returns-clause-taken
returns-clause-taken c = λ one body. taken_rise one body
