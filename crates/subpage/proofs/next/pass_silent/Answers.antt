use Rattle.std.proofs.Common.{arith, refl, sym, ◌∙◌}
use Rattle.subpage.specs.ElementView.{element_view}
use Rattle.subpage.specs.Reading.{walk}
use Rattle.subpage.proofs.Walking.{goes_on}
use Rattle.subpage.proofs.Suffixes.{suffix_step, suffix_whole, silent_same}
use Rattle.subpage.proofs.next.pass_silent.Goals as goal

pub loop-element-init : goal.loop-element-init
loop-element-init c = record { same = refl; left = omega arith; suffix = suffix_whole c.args.bytes.now }

pub loop-element-smaller : goal.loop-element-smaller
loop-element-smaller c =
    let t = goes_on c.args.order c.loop-element.time c.loop-element.rest.now (element_view c.in-Some.element) c.in-Some.behind.now c.in-Some-time_behind.after c.in-Some.ensures c.in-Some-time_behind.ensures in
    t.1

pub loop-element-preserved : goal.loop-element-preserved
loop-element-preserved c =
    let t = goes_on c.args.order c.loop-element.time c.loop-element.rest.now (element_view c.in-Some.element) c.in-Some.behind.now c.in-Some-time_behind.after c.in-Some.ensures c.in-Some-time_behind.ensures in
    let silent = c.if-not-is_silent.ensures refl c.in-Some-time_behind.after in
    record {
      same = sym (silent_same _ (walk c.args.order c.in-Some-time_behind.after c.in-Some.behind.now) silent) ∙ sym t.0 ∙ c.loop-element.invariant.same;
      left = omega arith;
      suffix = suffix_step c.args.order c.loop-element.rest.now (element_view c.in-Some.element) c.in-Some.behind.now c.args.bytes.now c.in-Some.ensures c.loop-element.invariant.suffix c.loop-element.invariant.left;
    }
