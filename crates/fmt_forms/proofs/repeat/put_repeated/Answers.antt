use Rattle.std.proofs.Common.{◌∙◌, arith}
use Rattle.fmt_forms.specs.Fills.{fill_byte}
use Rattle.fmt_forms.proofs.RepeatLemmas.{repeat_more, repeat_end}
use Rattle.fmt_forms.proofs.repeat.put_repeated.Goals as goal

pub loop-left-preserved : goal.loop-left-preserved
loop-left-preserved c =
    let before = c.loop-left.invariant in (
      c.block-block.ensures,
      c.put.ensures.same_slice ∙ before.1,
      repeat_more _ _ _ c.loop-left.left _ (fill_byte c.args.fill) c.block-block.ensures c.min-piece.ensures c.put.ensures.value ∙ before.2,
    )

pub returns-clause-value : goal.returns-clause-value
returns-clause-value c = repeat_end c.loop-left.into _ c.loop-left.left (fill_byte c.args.fill) (omega arith) c.loop-left.invariant.2
