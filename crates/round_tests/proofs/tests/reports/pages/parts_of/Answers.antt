use Rattle.std.proofs.Common.{◌+◌, ◌++◌, ◌∷◌, ℕ, List, [], length, arith, ap, subst, sym, ◌∙◌}
use Rattle.std.proofs.lemmas.List.{length-append}
use Rattle.trace_base.specs.declared.part.Part.{Part}
use Rattle.trace_base.specs.Parts.{part_of}
use Rattle.subpage.specs.Arrangement.{CpusRise}
use Rattle.round_tests.proofs.RisingParts.{rise_before, rise_more}
use Rattle.round_tests.proofs.tests.reports.pages.parts_of.Goals as goal

pub loop-i-init : goal.loop-i-init
loop-i-init c = record {
  count = ap length c.new-parts.ensures.items;
  place = omega arith;
  rise = λ part from. subst (λ (ps : List (ℕ × Part)). CpusRise (ps ++ part ∷ [])) (sym c.new-parts.ensures.items) tt;
}

pub loop-i-preserved : goal.loop-i-preserved
loop-i-preserved c = record {
  count = ap length c.in_ok-push.ensures.items ∙ length-append c.loop-i.parts.items _ ∙ (omega (arith, c.loop-i.invariant.count));
  place = c.saturating_add-offset.type_inv;
  rise = λ later from. subst (λ (ps : List (ℕ × Part)). CpusRise (ps ++ later ∷ [])) (sym c.in_ok-push.ensures.items)
      (rise_more c.loop-i.parts.items _ later (c.loop-i.invariant.rise _ (omega arith)) (omega (arith, from)));
}

pub returns-clause-rise : goal.returns-clause-rise
returns-clause-rise c = rise_before c.loop-i.parts.items (3 + length c.args.counts.now, part_of 0 0) (c.loop-i.invariant.rise _ (omega arith))

pub invariant_of-push : goal.invariant_of-push
invariant_of-push c = record { words = record { offset_fits = c.loop-i.invariant.place; size_fits = omega (arith, c.from-size.ensures, (c.type_inv.counts c.loop-i.i).fits) } }
