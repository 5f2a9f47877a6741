use Rattle.std.proofs.Common.{◌≡◌, drop}
use Rattle.std.specs.Prelude.{false}
use Rattle.trace_base.specs.Kept.{put}
use Rattle.trace_base.specs.TailView.{kept, lent}
use Rattle.fmt_eval.specs.Values.{given}
use Rattle.fmt_eval.specs.Entered.{rows_in}
use Rattle.fmt_eval.specs.Flags.{flags_from}
use Rattle.fmt_eval.proofs.flags.put_all_flags.Given as goal

abbrev pub invariant-loop-entry : goal.invariant-loop-entry
invariant-loop-entry l =
    (lent l.into ≡ lent l.fn.into)
    × (put (kept l.into) (flags_from l.between l.value l.left l.some (rows_in (given l.rec) (drop l.entry-index l.entries)))
    ≡ put (kept l.fn.into) (flags_from l.between l.value l.value false (rows_in (given l.rec) l.entries)))
