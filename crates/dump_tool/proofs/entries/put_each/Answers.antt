use Rattle.dump_tool.proofs.EntriesPut.{at_start, after_entry, within_entry, at_end}
use Rattle.dump_tool.proofs.entries.put_each.Goals as goal

pub loop-entry-init : goal.loop-entry-init
loop-entry-init g c = λ text texts yields puts. at_start g.I.Iterator.next_gives text texts _ _ (rw c.into_iter-entry-iterator.ensures.into_iter_gives yields)

pub loop-entry-preserved : goal.loop-entry-preserved
loop-entry-preserved g c = λ text texts yields puts.
    after_entry g.I.Iterator.next_gives text texts _ _ c.in-Some.entry _ _ _ (c.loop-entry.invariant text texts yields puts) c.in-Some.ensures.steps
    (puts _ _ _ _ _ _ c.in_ok-put.ensures)

pub returns-in_err-put : goal.returns-in_err-put
returns-in_err-put g c = λ text texts yields puts.
    within_entry g.I.Iterator.next_gives text texts _ _ c.in-Some.entry _ _ _ _ c.from_residual.result (c.loop-entry.invariant text texts yields puts) c.in-Some.ensures.steps
    (puts _ _ _ _ _ _ c.in_err-put.ensures) c.from_residual.ensures.0

pub returns : goal.returns
returns g c = λ text texts yields puts.
    at_end g.I.Iterator.next_gives text texts _ _ _ _ (c.loop-entry.invariant text texts yields puts) c.in-None.ensures.steps
