-- All that is said of a run that prints what the program tells of itself.
use Rattle.std.proofs.Common.{[], Some, Ok, refl, arith}
use Rattle.trace_args.specs.declared.topic.Topic.{Topic}
use Rattle.run_endings.specs.declared.status.Status.{Status}
use Rattle.run_endings.specs.Ending.{Prints}
use Rattle.run_words.specs.Job.{About}
use Rattle.run_endings.specs.Meaning.{on_out}
use Rattle.trace_run.specs.Meaning.{topic_means}
use Rattle.run_endings.specs.Outside.{FolderSeen, SinkSeen, beside}
use Rattle.trace_run.specs.Ran.{Ran}
use Rattle.trace_run.specs.Requested.{names_of}
use Rattle.run_endings.proofs.Endings.{ended_complete, not_usage}
use Rattle.run_endings.proofs.Requesting.{asked_none, asks_for}
use Rattle.run_endings.proofs.Reading.{any_answer}

pub topic_told : (topic : Topic) (status : Status) (folder : FolderSeen) (before now : SinkSeen) → Prints ⊥ (Some (topic_means topic)) status before now
    → Ran (Ok (About topic)) status (beside folder before) (beside folder now)
topic_told topic status folder before now prints =
    let ended = prints folder in
    record {
      job = record {
        ended = ended;
        complete = ended_complete on_out ⊥ (Some (topic_means topic)) status (beside folder before) (beside folder now) ended;
        misses = λ other. refl;
        closes = λ opened closed. omega arith;
        opens = omega arith;
      };
      usage = (not_usage on_out ⊥ status (beside folder before) (beside folder now) (λ unasked. unasked) ended.causes, refl);
      requested = asks_for (names_of (About topic)) (Some (topic_means topic)) folder.requested folder.requested (λ news. asked_none [] folder.requested);
      reads = any_answer status refl;
      gathers = tt;
    }
