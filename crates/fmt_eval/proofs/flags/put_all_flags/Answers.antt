use Rattle.std.proofs.Common.{◌+◌, true, false, drop, refl}
use Rattle.std.specs.Prelude.{bit_and}
use Rattle.std.specs.Int.{w64, bit_not}
use Rattle.trace_base.specs.Kept.{put}
use Rattle.trace_base.specs.TailView.{kept}
use Rattle.fmt_eval.specs.Values.{given}
use Rattle.fmt_eval.specs.Flags.{flags_from}
use Rattle.fmt_eval.specs.Entered.{rows_in}
use Rattle.fmt_eval.proofs.FlagLemmas.{nothing_left}
use Rattle.fmt_eval.proofs.FlagSteps.{entry_put, entry_passed}
use Rattle.fmt_eval.proofs.flags.put_all_flags.Goals as goal
use Rattle.fmt_eval.proofs.flags.put_all_flags.Goals.{then-is_flag+else-left-eq0, else-is_flag}

pub returns-then-left-eq0-clause-value : goal.returns-then-left-eq0-clause-value
returns-then-left-eq0-clause-value c =
    let all = put (kept c.args.into.now) (flags_from c.args.between.now c.args.value c.args.value false (rows_in (given c.args.rec.now) c.args.entries.now)) in
    nothing_left c.put_piece.new.into all c.args.between.now c.args.value (bit_and c.loop-entry.left (bit_not w64 c.mask_of-mask.result)) true (rows_in (given c.args.rec.now) (drop (c.loop-entry.entry-index + 1) c.args.entries.now)) c.if-left-eq0.true refl
    (entry_put (kept c.loop-entry.into) (kept c.put_piece.new.into) all (given c.args.rec.now) c.args.entries.now c.loop-entry.entry-index c.entry-item.result c.args.between.now c.as_bytes.result.now c.args.value c.loop-entry.left c.loop-entry.some c.mask_of-mask.result c.loop-entry-test.true c.entry-item.is c.mask_of-mask.ensures c.as_bytes.ensures c.if-is_flag.ensures c.put_piece.ensures.value c.loop-entry.invariant.1)

pub loop-entry-preserved : goal.loop-entry-preserved
loop-entry-preserved c =
    let all = put (kept c.args.into.now) (flags_from c.args.between.now c.args.value c.args.value false (rows_in (given c.args.rec.now) c.args.entries.now)) in
    elim c.if-is_flag.branch [
      | then-is_flag+else-left-eq0 w ↦
          let step = entry_put (kept c.loop-entry.into) (kept w.put_piece.new.into) all (given c.args.rec.now) c.args.entries.now c.loop-entry.entry-index c.entry-item.result c.args.between.now w.as_bytes.result.now c.args.value c.loop-entry.left c.loop-entry.some c.mask_of-mask.result c.loop-entry-test.true c.entry-item.is c.mask_of-mask.ensures w.as_bytes.ensures w.if-is_flag.ensures w.put_piece.ensures.value c.loop-entry.invariant.1 in
          (cc (w.put_piece.ensures.same_slice, c.loop-entry.invariant.0), cc step)
      | else-is_flag w ↦
          let step = entry_passed (kept c.loop-entry.into) all (given c.args.rec.now) c.args.entries.now c.loop-entry.entry-index c.entry-item.result c.args.between.now c.entry-item.result.text c.args.value c.loop-entry.left c.loop-entry.some c.mask_of-mask.result c.loop-entry-test.true c.entry-item.is c.mask_of-mask.ensures refl w.if-is_flag.ensures c.loop-entry.invariant.1 in
          (cc (c.loop-entry.invariant.0), cc step)
    ]
