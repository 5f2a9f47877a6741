use Rattle.std.proofs.Common.{◌≡◌, ◌-◌, ◌≤◌, Some, sym, subst, ◌∙◌, arith}
use Rattle.std.specs.Option.{IfSome}
use Rattle.trace_base.proofs.Layouts.{carried}
use Rattle.page_write.specs.Fill.{IsFill, IsSmall}
use Rattle.page_write.specs.PageBytes.{area_len}
use Rattle.page_write.proofs.Runs.{fill_run}
use Rattle.page_write.proofs.room.Room.add_run.Goals as goal

pub invariant_of-self : goal.invariant_of-self
invariant_of-self c =
    let l = c.args.layout.now in
    let fill = c.in-Some.fill in
    let left : c.room.result ≡ area_len l - fill.used = subst (λ f. IfSome f (λ x. c.room.result ≡ area_len l - x.used)) (sym c.self.view_is ∙ c.in-Some.is) c.room.ensures.left in
    let small : fill.used ≤ 262144 = subst IsSmall c.in-Some.is c.self.invariant in
    omega (arith, left, small, c.if-run-room.true, (carried l).page_most)

pub returns-then-run-room : goal.returns-then-run-room
returns-then-run-room c = λ held xs is behind has.
    let l = c.args.layout.now in
    let here : IsFill l (Some c.in-Some.fill) held = subst (λ f. IsFill l f held) (sym c.self.view_is ∙ c.in-Some.is) is in
    fill_run l c.in-Some.fill held xs c.args.run.now c.args.end (λ i. (c.type_inv.run i).fits) here behind has
