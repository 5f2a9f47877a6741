-- What holds of every job, whatever it means.
use Rattle.std.specs.Prelude.{◌≡◌, ◌≢◌, ◌+◌, ◌-◌, ◌^◌, ◌<◌, ◌≤◌, ℕ, Option, IfSome}
use Rattle.trace_outside.specs.declared.counts.Counts.{Counts}
use Rattle.trace_outside.specs.Causes.{raised}
use Rattle.run_endings.specs.declared.status.Status.{Status}
use Rattle.run_endings.specs.declared.status.Status.TheVariants.{ReadFault}
use Rattle.run_endings.specs.Ending.{Ended, IsComplete}
use Rattle.run_endings.specs.Meaning.{Meaning, Target}
use Rattle.run_endings.specs.Outside.{Outside}

-- a name that is missing is asked for only where the meaning is a fault of reading
abbrev pub MissesNothingElse : Meaning → Counts → Counts → Type 0
MissesNothingElse m before now = m.status ≢ ReadFault → now.misses ≡ before.misses

-- files were opened as often as closed, as far as the counts go
abbrev pub ClosesAll : Counts → Counts → Type 0
ClosesAll before now = now.opened < 2 ^ 64 - 1 → now.closed < 2 ^ 64 - 1 → now.opened + before.closed ≡ now.closed + before.opened

-- What a job did that writes to this, of which a read fails only with this reason, that means this where its meaning is known, and that
-- opens at most so many files.
pub record JobRan (target : Target) (unread : Type 0) (means : Option Meaning) (most : ℕ) (status : Status) (before now : Outside) : Type 0 where
  pub ended : Ended target unread means status before now
  pub complete : IfSome means (λ m. IsComplete target unread m status before now)
  pub misses : IfSome means (λ m. MissesNothingElse m before.folder.counts now.folder.counts)
  pub closes : ClosesAll before.folder.counts now.folder.counts
  pub opens : now.folder.counts.opened ≤ raised before.folder.counts.opened most
