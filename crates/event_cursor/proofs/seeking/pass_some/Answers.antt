use Rattle.std.proofs.Common.{sym, subst}
use Rattle.subpage.specs.declared.mark.Mark.{Mark}
use Rattle.event_cursor.specs.Passing.{IsPassedBy}
use Rattle.event_cursor.proofs.Passing.{one_passed, run_passed}
use Rattle.event_cursor.proofs.seeking.pass_some.Goals as goal

pub returns-in-Some-clause-passed : goal.returns-in-Some-clause-passed
returns-in-Some-clause-passed c = run_passed c.args.layout.now c.args.page.now c.args.mark _ _ c.in-Some.ensures.run

pub returns-in-Some-clause-some : goal.returns-in-Some-clause-some
returns-in-Some-clause-some c = c.in-Some.ensures.some

pub returns-in-Some-clause-few : goal.returns-in-Some-clause-few
returns-in-Some-clause-few c = c.in-Some.ensures.few

pub returns-clause-passed : goal.returns-clause-passed
returns-clause-passed c =
    let l = c.args.layout.now in
    let page = c.args.page.now in
    subst (λ (m : Mark). IsPassedBy l page c.args.mark m 1) (sym c.mark.ensures)
    (one_passed l page c.args.mark _ _ c.in-Some-pass_item.ensures.1.0 c.in-Some-pass_item.ensures.0)
