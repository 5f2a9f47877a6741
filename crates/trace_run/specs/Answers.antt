-- The numbers with which the program may end.
use Rattle.std.specs.Prelude.{◌≡◌, ℕ, List, Result}
use Rattle.run_endings.specs.declared.status.Status.{Status}
use Rattle.run_endings.specs.Outside.{Outside, SinkSeen}
use Rattle.run_endings.specs.StatusNumber.{status_number}
use Rattle.run_words.specs.declared.usage.UsageFault.{UsageFault}
use Rattle.run_words.specs.Job.{Job}
use Rattle.run_words.specs.Usage.{asked}
use Rattle.trace_run.specs.Messages.{SaysOf}
use Rattle.trace_run.specs.Ran.{Ran}

-- a run ended with the answer of this number, by what is seen of a folder, of the output and of the sink of the message
pub record Answers (read : Result Job UsageFault) (number : ℕ) (before now : Outside) (said_before said_now : SinkSeen) : Type 0 where
  pub status : Status
  pub ran : Ran read status before now
  pub says : SaysOf read status before.folder now.folder said_before said_now
  pub is : number ≡ status_number status

-- it is the number of an answer that a run of these words may give, beside some folder and some sinks
pub record IsNumberOf (words : List (List ℕ)) (number : ℕ) : Type 0 where
  pub before : Outside
  pub now : Outside
  pub said_before : SinkSeen
  pub said_now : SinkSeen
  pub answers : Answers (asked words) number before now said_before said_now
