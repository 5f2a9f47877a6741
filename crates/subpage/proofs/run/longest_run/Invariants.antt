use Rattle.std.proofs.Common.{◌<◌, ◌≤◌, ◌-◌}
use Rattle.subpage.specs.PlainRecord.{mark_at}
use Rattle.subpage.specs.Run.{IsRunTo}
use Rattle.subpage.proofs.run.longest_run.Given as goal

-- the records up to here
abbrev pub invariant-loop-more : goal.invariant-loop-more
invariant-loop-more l = record {
  run : IsRunTo l.layout l.page l.fn.mark (mark_at l.limits.until l.fn.first.to l.reached) (l.limits.events - l.more);
  end : l.reached.from ≤ l.end;
  left : l.reached.left ≤ l.limits.until;
  some : l.more < l.limits.events;
}

abbrev pub decreases-loop-more : goal.decreases-loop-more
decreases-loop-more l = l.more
