use Rattle.std.proofs.Common.{rules}
use Rattle.trace_outside.proofs.PendingLemmas.{puts_flushed, puts_stopped, puts_past}
use Rattle.trace_outside.proofs.pending.Pending.put.Goals as goal

pub returns-in_err-flush : goal.returns-in_err-flush
returns-in_err-flush g c = record {
  puts = puts_stopped _ _ _ _ _ _ c.from_residual.result c.if-append.ensures.waits c.from_residual.ensures.0 c.in_err-flush.ensures.flushes;
  name = search rules;
  cause = search rules;
}

pub returns-then-append-2 : goal.returns-then-append-2
returns-then-append-2 g c = record {
  puts = λ before text held.
      puts_flushed _ _ _ _ _ _ _ before text c.if-append.ensures.waits c.in_ok-flush.ensures.flushes.0 c.in_ok-flush.ensures.flushes.1 c.if-append-2.ensures.waits held;
  name = search rules;
  cause = search rules;
}

pub returns : goal.returns
returns g c = record {
  puts = puts_past _ _ _ _ _ _ _ _ c.write_all.result c.if-append.ensures.waits c.in_ok-flush.ensures.flushes.0 c.in_ok-flush.ensures.flushes.1 c.if-append-2.ensures.waits
      c.write_all.ensures.gained c.write_all.ensures.prefix;
  name = search rules;
  cause = search rules;
}
