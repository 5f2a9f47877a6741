use Rattle.std.proofs.Common.{◌≡◌, ◌-◌, ◌≤◌, drop, length}
use Rattle.subpage.specs.Reading.{walk}
use Rattle.subpage.proofs.next.next_event.Given as goal

-- the bytes that are left tell the same events
abbrev pub invariant-loop-rest : goal.invariant-loop-rest
invariant-loop-rest l = record {
  same : walk l.order l.time l.rest ≡ walk l.order l.start l.bytes;
  left : length l.rest ≤ length l.bytes;
  suffix : l.rest ≡ drop (length l.bytes - length l.rest) l.bytes;
}

abbrev pub decreases-loop-rest : goal.decreases-loop-rest
decreases-loop-rest l = length l.rest
