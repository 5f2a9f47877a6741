-- A text that was put where nothing waited, and flushed.
use Rattle.std.proofs.Common.{◌≡◌, ℕ, List, [], Option, Result, Ok, Err, IsErr}
use Rattle.trace_outside.specs.Causes.{HasCause}
use Rattle.trace_outside.specs.Pending.{Flushes}
use Rattle.trace_outside.proofs.Putting.{Put, Stopped, gained_from_nothing, stopped_at_flush, stopped_from_nothing}
use Rattle.run_endings.specs.Outside.{SinkSeen}
use Rattle.run_endings.specs.Output.{WritesText}

module _ {T E : Type 0} (text : List ℕ) (before now : SinkSeen) where
  -- all of it was put, and what waits of it was flushed
  pub flushed_text : (mid : Option (List ℕ)) (waiting waiting_mid waiting_now : List ℕ) (result : Result T E) → waiting ≡ []
      → Put text before.written waiting mid waiting_mid → Flushes mid waiting_mid now.written waiting_now result → HasCause before.faults now.faults result
      → WritesText text before now result
  flushed_text mid waiting waiting_mid waiting_now result none put flushes cause = record {
    gained = gained_from_nothing text before.written mid now.written waiting waiting_mid waiting_now result none put flushes;
    prefix = stopped_at_flush text before.written mid now.written waiting waiting_mid waiting_now result none put flushes;
    cause = cause;
  }

  -- the sink was stopped within it
  pub stopped_text : (waiting : List ℕ) (result : Result T E) → waiting ≡ [] → IsErr result → Stopped text before.written waiting now.written
      → HasCause before.faults now.faults result → WritesText text before now result
  stopped_text waiting (Ok value) none failed stopped cause = absurd (let bad : ⊥ = cc in bad)
  stopped_text waiting (Err error) none failed stopped cause = record {
    gained = tt;
    prefix = stopped_from_nothing {T = T} {E = E} text before.written now.written waiting (Err error) none stopped;
    cause = cause;
  }
