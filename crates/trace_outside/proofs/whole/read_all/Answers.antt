use Rattle.std.proofs.Common.{arith, ◌∙◌, ◌+◌, subst, Option, List, ℕ}
use Rattle.trace_outside.specs.Reading.{GivesBytesAt}
use Rattle.trace_outside.proofs.Fills.{given_more}
use Rattle.trace_outside.proofs.whole.read_all.Goals as goal

pub loop-done-preserved : goal.loop-done-preserved
loop-done-preserved g c =
    let given = c.in_ok-done.ensures.given in
    let here : GivesBytesAt (g.I.File.bytes c.args.file.now) (c.args.at + c.loop-done.done) c.in_ok-done.field-0 c.read_at.new.into =
    subst (λ (told : Option (List ℕ)). GivesBytesAt told (c.args.at + c.loop-done.done) c.in_ok-done.field-0 c.read_at.new.into) c.loop-done.invariant.keeps.bytes given.2 in
    record {
      within = omega (arith, given.1);
      given = given_more _ _ _ _ _ _ _ (omega arith) given.1 c.loop-done.invariant.given here;
      reads = omega (arith, c.in_ok-done.ensures.reads, c.loop-done.invariant.reads);
      keeps = record {
        bytes = c.in_ok-done.ensures.bytes ∙ c.loop-done.invariant.keeps.bytes;
        size = c.in_ok-done.ensures.size ∙ c.loop-done.invariant.keeps.size;
        later = omega (arith, c.in_ok-done.ensures.cause.later, c.loop-done.invariant.keeps.later);
      };
      faults = c.in_ok-done.ensures.cause.kept ∙ c.loop-done.invariant.faults;
    }
