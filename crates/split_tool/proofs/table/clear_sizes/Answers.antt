use Rattle.std.proofs.Common.{rules, refl, arith, ◌<◌, length, ◌∙◌}
use Rattle.std.proofs.lemmas.List.{length-set}
use Rattle.split_tool.proofs.Tables.{cleared_more}
use Rattle.split_tool.proofs.table.clear_sizes.Goals as goal

pub loop-i-preserved : goal.loop-i-preserved
loop-i-preserved c =
    let lt : c.loop-i.i < length c.loop-i.table = search rules in
    record {
      long = length-set c.loop-i.table c.loop-i.i _ ∙ c.loop-i.invariant.long;
      none = cleared_more c.loop-i.table c.loop-i.i _ lt refl c.loop-i.invariant.none;
    }

pub returns-clause-none : goal.returns-clause-none
returns-clause-none c = λ i p lt. c.loop-i.invariant.none i p (omega (arith, lt, c.loop-i-test.false, c.loop-i.invariant.long))
