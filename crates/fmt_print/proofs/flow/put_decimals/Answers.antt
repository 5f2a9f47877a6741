use Rattle.std.proofs.Common.{◌∙◌, ap, arith, rules}
use Rattle.std.specs.Fmt.{decimal}
use Rattle.trace_base.specs.Kept.{put}
use Rattle.trace_base.specs.TailView.{kept}
use Rattle.fmt_eval.proofs.PieceLemmas.{behind, join_more, join_end}
use Rattle.fmt_print.proofs.flow.put_decimals.Goals as goal

pub loop-byte-preserved : goal.loop-byte-preserved
loop-byte-preserved c = (
  c.put_piece.ensures.same_slice ∙ c.loop-byte.invariant.0,
  join_more decimal _ _ _ c.args.bytes.now c.loop-byte.byte-index 0 c.loop-byte.some c.args.between.now c.loop-byte-test.true
      (c.put_piece.ensures.value ∙ ap (λ ds. put (kept c.loop-byte.into) (behind c.loop-byte.some c.args.between.now ds)) (search (rules))) c.loop-byte.invariant.1,
)

pub returns-clause-value : goal.returns-clause-value
returns-clause-value c = join_end decimal c.loop-byte.into _ c.args.bytes.now c.loop-byte.byte-index c.loop-byte.some c.args.between.now (omega arith) c.loop-byte.invariant.1
