use Rattle.std.proofs.Common.{◌≡◌, ℕ, drop, subst, arith}
use Rattle.subpage.specs.Marks.{items_from}
use Rattle.event_cursor.proofs.Passing.{none_passed, passed_on, all_passed}
use Rattle.event_cursor.proofs.seeking.pass.Goals as goal

pub loop-passed-init : goal.loop-passed-init
loop-passed-init c = record { passed = none_passed c.args.layout.now c.args.page.now c.args.first c.requires; few = omega arith }

pub pass_some-requires-clause-mark : goal.pass_some-requires-clause-mark
pass_some-requires-clause-mark c = c.loop-passed.invariant.passed.there

pub returns-in_default-clause-few : goal.returns-in_default-clause-few
returns-in_default-clause-few c =
    all_passed c.args.layout.now c.args.page.now c.args.first c.loop-passed.mark c.loop-passed.passed c.args.count c.loop-passed.invariant.passed
    c.in_default.ensures.none (omega arith)

pub overflow_add-passed : goal.overflow_add-passed
overflow_add-passed c = omega (arith, c.in-Some.ensures.few)

pub loop-passed-smaller : goal.loop-passed-smaller
loop-passed-smaller c = omega (arith, c.in-Some.ensures.some, c.in-Some.ensures.few)

pub loop-passed-preserved : goal.loop-passed-preserved
loop-passed-preserved c = record {
  passed = passed_on c.args.layout.now c.args.page.now c.args.first c.loop-passed.mark c.in-Some.behind c.loop-passed.passed c.in-Some.more c.loop-passed.invariant.passed c.in-Some.ensures.passed;
  few = omega (arith, c.in-Some.ensures.few);
}

pub returns-clause-mark : goal.returns-clause-mark
returns-clause-mark c = c.loop-passed.invariant.passed.there

pub returns-clause-passed : goal.returns-clause-passed
returns-clause-passed c =
    let l = c.args.layout.now in
    let page = c.args.page.now in
    let all : c.loop-passed.passed ≡ c.args.count = omega arith in
    subst (λ (n : ℕ). items_from l page c.loop-passed.mark ≡ drop n (items_from l page c.args.first)) all c.loop-passed.invariant.passed.left

pub returns-clause-enough : goal.returns-clause-enough
returns-clause-enough c = omega (arith, c.loop-passed.invariant.passed.enough)
