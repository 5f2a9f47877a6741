use Rattle.std.proofs.Common.{rules, subst, sym}
use Rattle.trace_args.specs.Command.{report_view, restore_view, self_view, split_view}
use Rattle.run_words.proofs.Jobs.{none_asked, restore_asked, split_asked}
use Rattle.run_words.proofs.RestoreWords.{restore_few}
use Rattle.run_words.proofs.SplitWords.{split_allowed}
use Rattle.run_words.proofs.InputWords.{report_allowed}
use Rattle.run_words.proofs.Workers.{self_test_workers}
use Rattle.run_words.specs.Allowed.{IsAllowedJob}
use Rattle.run_words.proofs.job.read_job.Goals as goal

pub returns-in-Ok-Report-clause-allowed : goal.returns-in-Ok-Report-clause-allowed
returns-in-Ok-Report-clause-allowed c =
    subst IsAllowedJob (sym c.report_job.ensures) (report_allowed c.args.words.now (report_view c.in-Ok-Report.report) (search rules))

pub returns-in-Ok-SelfTest-clause-allowed : goal.returns-in-Ok-SelfTest-clause-allowed
returns-in-Ok-SelfTest-clause-allowed c = self_test_workers c.args.words.now (self_view c.in-Ok-SelfTest.words) (search rules)

pub returns-in-Ok-Split-clause-allowed : goal.returns-in-Ok-Split-clause-allowed
returns-in-Ok-Split-clause-allowed c = split_allowed c.args.words.now (split_view c.in-Ok-Split.split) (search rules)

pub returns-in-Ok-Split-clause-job : goal.returns-in-Ok-Split-clause-job
returns-in-Ok-Split-clause-job c = split_asked c.args.words.now (split_view c.in-Ok-Split.split) (search rules)

pub returns-in-Ok-Restore-clause-allowed : goal.returns-in-Ok-Restore-clause-allowed
returns-in-Ok-Restore-clause-allowed c = restore_few c.args.words.now (restore_view c.in-Ok-Restore.words) (search rules)

pub returns-in-Ok-Restore-clause-job : goal.returns-in-Ok-Restore-clause-job
returns-in-Ok-Restore-clause-job c = restore_asked c.args.words.now (restore_view c.in-Ok-Restore.words) (search rules)

pub returns-in-Err-clause-job : goal.returns-in-Err-clause-job
returns-in-Err-clause-job c = none_asked c.args.words.now c.in-Err.fault c.in-Err.ensures.exact
