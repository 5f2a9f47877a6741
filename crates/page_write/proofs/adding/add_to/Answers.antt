use Rattle.std.proofs.Common.{refl, subst, Some, None}
use Rattle.subpage.specs.ItemData.{EventAt, LossAt}
use Rattle.subpage.specs.ItemView.{item_view}
use Rattle.page_write.specs.PageBytes.{IsPackable}
use Rattle.page_write.specs.Held.{told, Holds}
use Rattle.page_write.proofs.Holding.{adds_next, loss_full, holds_loss}
use Rattle.page_write.proofs.adding.add_to.Goals as goal

pub returns-in-Some : goal.returns-in-Some
returns-in-Some c =
    let l = c.args.layout.now in
    let held = subst (λ p. Holds l p c.args.into.now (told l p c.args.into.now)) c.in-Some.is c.requires.held in
    rw (c.in-Event.is, c.in-Some.is) (adds_next l c.in-Some.page c.args.into.now (told l (Some c.in-Some.page) c.args.into.now) (EventAt c.in-Event.time c.in-Event.payload.now) c.args.into.now c.add_next.new.into c.add_next.result held c.add_next.ensures)

pub returns-in-None-page : goal.returns-in-None-page
unfolding told
returns-in-None-page c =
    let ok = subst (λ i. IsPackable c.args.layout.now (item_view i)) c.in-Loss.is c.requires.packable in
    rw (c.in-None-page.is, c.in-Loss.is) (holds_loss c.args.layout.now _ c.args.into.now c.in-Loss.time c.in-Loss.count ok refl refl refl (c.lost_of_loss.ensures c.in-Loss.time))

pub returns-in-Some-page : goal.returns-in-Some-page
returns-in-Some-page c =
    let l = c.args.layout.now in
    let bytes = c.args.into.now in
    let page = c.in-Some-page.field-0 in
    let held = subst (λ p. Holds l p bytes (told l p bytes)) c.in-Some-page.is c.requires.held in
    rw (c.in-Some-page.is, c.in-Loss.is) (adds_next l page bytes (told l (Some page) bytes) (LossAt c.in-Loss.time c.in-Loss.count) bytes bytes None held (λ y ys h. (loss_full l y ys c.in-Loss.time c.in-Loss.count, refl)))
