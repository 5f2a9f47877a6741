-- How many bytes are read, beside what is written, and by which answers that is told.
use Rattle.std.specs.Prelude.{Option, ℕ, List, sum_by}
use Rattle.trace_base.specs.declared.part.Part.{Part}
use Rattle.run_endings.specs.declared.status.Status.{Status}
use Rattle.run_endings.specs.declared.status.Status.TheVariants.{Done, Malformed, WriteFault}
use Rattle.run_endings.specs.Outside.{Outside}

-- how many bytes parts of processors have
abbrev pub parts_size : List (ℕ × Part) → ℕ
parts_size parts = sum_by (λ part. part.1.size) parts

-- what stands on the output, and how many bytes of files were read by then
pub record Progress : Type 0 where
  pub written : Option (List ℕ)
  pub reads : ℕ

abbrev pub progress : Outside → Progress
progress seen = record { written = seen.out.written; reads = seen.folder.counts.bytes }

abbrev pub progress_at : Option (List ℕ) → ℕ → Progress
progress_at written reads = record { written = written; reads = reads }

-- a claim for the answers after a header: the work is done, the file is malformed, or the output could not be written
abbrev pub BehindHeader : Status → Type 0 → Type 0
BehindHeader Done claim = claim
BehindHeader (Malformed cut) claim = claim
BehindHeader WriteFault claim = claim
BehindHeader status claim = Unit {0}
