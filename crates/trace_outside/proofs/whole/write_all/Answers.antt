use Rattle.std.proofs.Common.{◌∙◌, rules, arith}
use Rattle.std.proofs.lemmas.List.{take_rest, length-drop}
use Rattle.trace_outside.proofs.Gains.{gained_more}
use Rattle.trace_outside.proofs.whole.write_all.Goals as goal

pub loop-done-preserved : goal.loop-done-preserved
loop-done-preserved g c =
    let taken = rw (take_rest c.args.text.now c.loop-done.done) at c.in_ok-done.ensures.taken in
    record {
      within = omega (arith, taken.0, length-drop c.loop-done.done c.args.text.now);
      gained = gained_more _ _ _ c.args.text.now c.loop-done.done c.in_ok-done.field-0 c.loop-done.invariant.gained taken.2;
      name = search rules;
      faults = c.in_ok-done.ensures.cause.kept ∙ c.loop-done.invariant.faults;
    }
