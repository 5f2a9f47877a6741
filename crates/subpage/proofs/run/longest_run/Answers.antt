use Rattle.std.proofs.Common.{◌≡◌, ℕ, ◌+◌, ◌-◌, ◌^◌, ◌<◌, length, sym, ap, subst, arith}
use Rattle.std.proofs.lemmas.List.{length-take}
use Rattle.subpage.proofs.Runs.{first_reached, further_none, further_passed, run_goes_on}
use Rattle.subpage.specs.PlainRecord.{mark_at}
use Rattle.subpage.specs.Run.{IsRunTo, NonePlain}
use Rattle.subpage.specs.declared.mark.Mark.{Mark}
use Rattle.subpage.proofs.run.longest_run.Goals as goal

pub loop-more-init : goal.loop-more-init
loop-more-init c =
    let count : 1 ≡ c.args.limits.events - (c.args.limits.events - 1) = omega (arith, c.requires.some) in
    let run = first_reached c.args.layout.now c.args.page.now c.args.mark c.args.first c.args.limits.until 1 c.requires.first c.requires.in_time in
    record {
      run = subst (λ (n : ℕ). IsRunTo c.args.layout.now c.args.page.now c.args.mark (mark_at c.args.limits.until c.args.first.to (record { from = c.args.first.from; left = c.args.limits.until - c.args.first.time })) n) count run;
      end = c.requires.end;
      left = omega arith;
      some = omega (arith, c.requires.some);
    }

pub loop-more-preserved : goal.loop-more-preserved
loop-more-preserved c =
    let l = c.args.layout.now in
    let page = c.args.page.now in
    let until = c.args.limits.until in
    let to = c.args.first.to in
    let end = c.args.end in
    let events = c.args.limits.events in
    let at = c.loop-more.reached in
    let next = c.in-Some.further in
    let before = c.loop-more.invariant in
    let small : until < 2 ^ 64 = omega arith in
    let passed = further_passed l page c.split_at.result.0.now until to end at next small before.run.there c.split_at.ensures.front before.end c.requires.within before.left c.in-Some.ensures in
    let run = run_goes_on l page c.args.mark (mark_at until to at) (mark_at until to next) (events - c.loop-more.more) 1 before.run passed in
    let count : events - c.loop-more.more + 1 ≡ events - (c.loop-more.more - 1) = omega (arith, before.some, c.loop-more-test.true) in
    record {
      run = subst (λ (n : ℕ). IsRunTo l page c.args.mark (mark_at until to next) n) count run;
      end = omega (arith, ap length c.split_at.ensures.front, length-take end page, c.in-Some.ensures.1.1.1.0);
      left = omega (arith, before.left, c.in-Some.ensures.1.0);
      some = omega (arith, before.some);
    }

pub returns-in_default-clause-longest : goal.returns-in_default-clause-longest
returns-in_default-clause-longest c = λ more.
    let before = c.loop-more.invariant in
    let l = c.args.layout.now in
    let page = c.args.page.now in
    let until = c.args.limits.until in
    let none = further_none l page c.split_at.result.0.now until c.args.first.to c.args.end c.loop-more.reached c.split_at.ensures.front before.end c.requires.within before.left c.in_default.ensures in
    subst (λ (m : Mark). NonePlain l page m (c.args.end - m.from) until) (sym c.mark.ensures) none

pub returns-clause-longest : goal.returns-clause-longest
returns-clause-longest c = λ more. absurd (omega (arith, more))
