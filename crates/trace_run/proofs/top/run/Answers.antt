use Rattle.std.proofs.Common.{[], subst, sym, Result}
use Rattle.run_words.specs.declared.usage.AskFault.{AskFault}
use Rattle.run_words.specs.declared.usage.UsageFault.{UsageFault}
use Rattle.run_endings.specs.declared.status.Status.TheVariants.{NoMemory, Usage}
use Rattle.run_words.specs.Job.{Job}
use Rattle.trace_run.specs.Messages.{Says, message, usage_line}
use Rattle.run_endings.specs.Outside.{outside_seen, sink_seen}
use Rattle.trace_run.specs.Ran.{Ran}
use Rattle.run_words.specs.Usage.{asked}
use Rattle.run_words.specs.UsageView.{IsFaultOf}
use Rattle.trace_run.proofs.Endings.{ran_unasked, ran_unread}
use Rattle.trace_run.proofs.Said.{usage_said, job_said, wanting}
use Rattle.trace_run.proofs.top.run.Goals as goal

pub returns-in-Ok : goal.returns-in-Ok
returns-in-Ok g c =
    let read = c.in-Ok.ensures.job in
    let outcome = c.run_job-outcome.result in
    let before = outside_seen g.F.Folder g.O.Sink c.args.folder.now c.args.out.now in
    let now = outside_seen g.F.Folder g.O.Sink c.run_job-outcome.new.folder c.run_job-outcome.new.out in
    record {
      ran = subst (λ (reading : Result Job UsageFault). Ran reading outcome.status before now) (sym read) c.run_job-outcome.ensures.ran;
      says = record {
        line = message outcome.file.now outcome.status;
        is = job_said _ _ outcome.file.now outcome.status before.folder now.folder read c.run_job-outcome.ensures.named;
        says = c.say.ensures;
      };
    }

pub returns-in-Err-Memory-clause-says : goal.returns-in-Err-Memory-clause-says
returns-in-Err-Memory-clause-says g c = record { line = message [] NoMemory; is = wanting (asked c.args.words.now) _; says = c.say-in-Err-Memory.ensures }

pub returns-in-Err-Memory-clause-ran : goal.returns-in-Err-Memory-clause-ran
returns-in-Err-Memory-clause-ran g c = ran_unread (asked c.args.words.now) _

pub returns-in-Err-Usage : goal.returns-in-Err-Usage
returns-in-Err-Usage g c =
    let fault = c.in-Err-Usage.fault in
    let read = subst (λ (why : AskFault). IsFaultOf (asked c.args.words.now) why) c.in-Err-Usage.field-0-is c.in-Err-Usage.ensures.fault in
    let before = outside_seen g.F.Folder g.O.Sink c.args.folder.now c.args.out.now in
    record {
      ran = subst (λ (reading : Result Job UsageFault). Ran reading Usage before before) (sym read) (ran_unasked fault before);
      says = record {
        line = usage_line fault;
        is = usage_said fault (asked c.args.words.now) before.folder before.folder read;
        says = subst (λ (f : UsageFault). Says (usage_line f) (sink_seen g.E.Sink c.args.err.now) (sink_seen g.E.Sink c.say_usage.new.err)) c.in-Err-Usage.fault-is c.say_usage.ensures;
      };
    }
