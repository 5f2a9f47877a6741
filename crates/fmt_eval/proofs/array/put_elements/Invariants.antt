use Rattle.std.proofs.Common.{◌≡◌}
use Rattle.std.specs.Prelude.{false}
use Rattle.trace_base.specs.Kept.{put}
use Rattle.trace_base.specs.TailView.{kept, lent}
use Rattle.fmt_eval.specs.Arrays.{elements_from}
use Rattle.fmt_eval.proofs.array.put_elements.Given as goal

abbrev pub invariant-loop-left : goal.invariant-loop-left
invariant-loop-left l =
    (lent l.into ≡ lent l.fn.into)
    × (put (kept l.into) (elements_from l.some l.left l.order l.size l.rest) ≡ put (kept l.fn.into) (elements_from false l.fn.count l.order l.size l.fn.bytes))

abbrev pub decreases-loop-left : goal.decreases-loop-left
decreases-loop-left l = l.left
