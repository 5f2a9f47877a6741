use Rattle.std.proofs.Common.{ℕ, List, drop}
use Rattle.trace_samples.specs.Told.{HasPages}
use Rattle.trace_samples.proofs.sub_buffers.put_pages.Given as goal

abbrev pub invariant-loop-page : goal.invariant-loop-page
invariant-loop-page l = (now : List ℕ) → HasPages (drop l.page-index l.pages) l.file.items now → HasPages l.pages l.fn.file.items now
