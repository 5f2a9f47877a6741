use Rattle.std.proofs.Common.{arith}
use Rattle.std.proofs.lemmas.List.{length-append}
use Rattle.split_passes.proofs.tally.Tally.add_run.Goals as goal

pub returns : goal.returns
returns c = λ xs ys tally after room long some few. record {
  count = omega (arith, tally.count, c.from.ensures, long, length-append xs ys, few);
  pages = c.add_run.ensures.counts xs ys tally.pages after room;
  few = omega (arith, c.add_run.ensures.same, tally.few, tally.count, c.from.ensures, long, length-append xs ys, few);
}
