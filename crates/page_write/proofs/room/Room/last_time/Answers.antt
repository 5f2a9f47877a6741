use Rattle.std.proofs.Common.{None, Some, sym, ap, subst, ◌∙◌}
use Rattle.subpage.specs.ItemData.{last_time}
use Rattle.page_write.specs.Fill.{IsFill}
use Rattle.page_write.proofs.Runs.{no_fill, fill_last}
use Rattle.page_write.proofs.room.Room.last_time.Goals as goal

pub returns-in-None : goal.returns-in-None
returns-in-None c = λ layout held is.
    let here : IsFill layout None held = subst (λ f. IsFill layout f held) (sym c.self.view_is ∙ c.in-None.is) is in
    ap last_time (sym (no_fill layout held here))

pub returns-in-Some : goal.returns-in-Some
returns-in-Some c = λ layout held is.
    let here : IsFill layout (Some c.in-Some.fill) held = subst (λ f. IsFill layout f held) (sym c.self.view_is ∙ c.in-Some.is) is in
    sym (fill_last layout c.in-Some.fill held here)
