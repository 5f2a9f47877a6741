use Rattle.std.proofs.Common.{◌≡◌, length, None, Some, sym, subst, ◌∙◌, arith}
use Rattle.page_write.specs.Fill.{IsFill}
use Rattle.page_write.specs.PageBytes.{data_text}
use Rattle.page_write.proofs.Runs.{no_fill, none_taken, fill_used}
use Rattle.page_write.proofs.room.Room.room.Goals as goal

pub returns-in-None-clause-room : goal.returns-in-None-clause-room
returns-in-None-clause-room c = λ held is.
    let l = c.args.layout.now in
    let here : IsFill l None held = subst (λ f. IsFill l f held) (sym c.self.view_is ∙ c.in-None.is) is in
    let none : length (data_text l held) ≡ 0 = none_taken l held (no_fill l held here) in
    omega (arith, none)

pub returns-in-Some-clause-room : goal.returns-in-Some-clause-room
returns-in-Some-clause-room c = λ held is.
    let l = c.args.layout.now in
    let here : IsFill l (Some c.in-Some.fill) held = subst (λ f. IsFill l f held) (sym c.self.view_is ∙ c.in-Some.is) is in
    let used = fill_used l c.in-Some.fill held here in
    omega (arith, used.0, used.1)
