use Rattle.run_endings.specs.Outside.{sink_seen}
use Rattle.trace_run.proofs.JobsRan.{files_ran, restore_ran}
use Rattle.trace_run.proofs.SelfTested.{self_tested}
use Rattle.trace_run.proofs.TopicTold.{topic_told}
use Rattle.trace_run.proofs.command.run_job.Goals as goal

pub returns-in-SelfTest-clause-ran : goal.returns-in-SelfTest-clause-ran
returns-in-SelfTest-clause-ran g c = rw c.in-SelfTest.is (self_tested _ c.print_self_test-status.result _ _ _ c.print_self_test-status.ensures)

pub returns-in-Restore-clause-ran : goal.returns-in-Restore-clause-ran
returns-in-Restore-clause-ran g c = rw c.in-Restore.is (restore_ran _ c.restore_files.result.status _ _ (c.restore_files.ensures.ran (sink_seen g.O.Sink c.args.out.now)))

pub returns-in-OnFiles-clause-ran : goal.returns-in-OnFiles-clause-ran
returns-in-OnFiles-clause-ran g c = rw c.in-OnFiles.is (files_ran _ c.print_files.result.status _ _ c.print_files.ensures.ran)

pub returns-in-OnFiles-clause-named : goal.returns-in-OnFiles-clause-named
returns-in-OnFiles-clause-named g c = rw c.in-OnFiles.is (c.print_files.ensures.named, c.print_files.ensures.unread)

pub returns-in-Restore-clause-named : goal.returns-in-Restore-clause-named
returns-in-Restore-clause-named g c = rw c.in-Restore.is c.restore_files.ensures.named

pub returns-in-About-clause-ran : goal.returns-in-About-clause-ran
returns-in-About-clause-ran g c = rw c.in-About.is (topic_told _ c.print_topic-status.result _ _ _ c.print_topic-status.ensures)
