use Rattle.std.proofs.Common.{◌-◌, length}
use Rattle.subpage.specs.Left.{loss_items}
use Rattle.subpage.proofs.Counting.{UpTo}
use Rattle.subpage.proofs.summary.summarize_in.Given as goal

abbrev pub invariant-loop-after : goal.invariant-loop-after
invariant-loop-after l = UpTo l.summary (loss_items l.fn.loss) l.order l.start l.time l.bytes l.from

abbrev pub decreases-loop-after : goal.decreases-loop-after
decreases-loop-after l = length l.bytes - l.from
