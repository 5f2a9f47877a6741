use Rattle.std.proofs.Common.{◌∙◌, ◌-◌, ap, true, arith}
use Rattle.trace_base.specs.Kept.{put}
use Rattle.trace_base.specs.TailView.{kept}
use Rattle.fmt_eval.specs.Arrays.{elements_from}
use Rattle.fmt_eval.specs.Pieces.{hexadecimal}
use Rattle.fmt_eval.proofs.PieceLemmas.{element_more, elements_end, no_element, no_room}
use Rattle.fmt_eval.proofs.array.put_elements.Goals as goal

pub loop-left-preserved : goal.loop-left-preserved
loop-left-preserved c = (
  c.put_hexadecimal.ensures.same_slice ∙ c.put_between.ensures.same_slice ∙ c.loop-left.invariant.0,
  ap (λ rest. put (kept c.put_hexadecimal.new.into) (elements_from true (c.loop-left.left - 1) c.args.order c.args.size rest)) c.split_at.ensures.back
      ∙ element_more (kept c.loop-left.into) (kept c.put_between.new.into) (kept c.put_hexadecimal.new.into) _ c.loop-left.some c.loop-left.left c.args.order c.args.size c.loop-left.rest.now
      c.requires (omega arith) c.if-size-rest.true c.put_between.ensures.value
      (c.put_hexadecimal.ensures.value ∙ ap (λ n. put (kept c.put_between.new.into) (hexadecimal n)) c.unsigned_at.ensures) c.loop-left.invariant.1,
)

pub returns-else-size-rest-clause-value : goal.returns-else-size-rest-clause-value
returns-else-size-rest-clause-value c =
    elements_end c.loop-left.into _ c.loop-left.some c.loop-left.left c.args.order c.args.size c.loop-left.rest.now (no_room c.loop-left.left c.args.order c.args.size c.loop-left.rest.now (omega arith)) c.loop-left.invariant.1

pub returns-after-loop-left-clause-value : goal.returns-after-loop-left-clause-value
returns-after-loop-left-clause-value c =
    elements_end c.loop-left.into _ c.loop-left.some c.loop-left.left c.args.order c.args.size c.loop-left.rest.now (no_element c.loop-left.left c.args.order c.args.size c.loop-left.rest.now (omega arith)) c.loop-left.invariant.1
