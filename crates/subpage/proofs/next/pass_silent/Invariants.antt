use Rattle.std.proofs.Common.{◌≡◌, ◌-◌, ◌≤◌, drop, length}
use Rattle.subpage.specs.Reading.{walk}
use Rattle.subpage.proofs.next.pass_silent.Given as goal

abbrev pub invariant-loop-element : goal.invariant-loop-element
invariant-loop-element l = record {
  same : walk l.order l.time l.rest ≡ walk l.order l.start l.bytes;
  left : length l.rest ≤ length l.bytes;
  suffix : l.rest ≡ drop (length l.bytes - length l.rest) l.bytes;
}

abbrev pub decreases-loop-element : goal.decreases-loop-element
decreases-loop-element l = length l.rest
