use Rattle.std.proofs.Common.{◌≡◌, drop, map}
use Rattle.std.specs.Fmt.{decimal}
use Rattle.trace_base.specs.Kept.{put}
use Rattle.trace_base.specs.TailView.{kept, lent}
use Rattle.fmt_eval.specs.Pieces.{join, join_behind}
use Rattle.fmt_print.proofs.flow.put_decimals.Given as goal

abbrev pub invariant-loop-byte : goal.invariant-loop-byte
invariant-loop-byte l =
    (lent l.into ≡ lent l.fn.into)
    × (put (kept l.into) (join_behind l.some l.between (map decimal (drop l.byte-index l.bytes))) ≡ put (kept l.fn.into) (join l.between (map decimal l.bytes)))
