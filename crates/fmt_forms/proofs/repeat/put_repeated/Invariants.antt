use Rattle.std.proofs.Common.{◌≡◌, replicate}
use Rattle.fmt_forms.specs.Fills.{fill_byte}
use Rattle.trace_base.specs.Kept.{put}
use Rattle.trace_base.specs.TailView.{kept, lent}
use Rattle.fmt_forms.proofs.repeat.put_repeated.Given as goal

abbrev pub invariant-loop-left : goal.invariant-loop-left
invariant-loop-left l =
    (l.block ≡ replicate 64 (fill_byte l.fn.fill)) × (lent l.into ≡ lent l.fn.into)
    × (put (kept l.into) (replicate l.left (fill_byte l.fn.fill)) ≡ put (kept l.fn.into) (replicate l.fn.count (fill_byte l.fn.fill)))

abbrev pub decreases-loop-left : goal.decreases-loop-left
decreases-loop-left l = l.left
