use Rattle.std.proofs.Common.{arith, subst}
use Rattle.subpage.specs.ItemData.{EventAt}
use Rattle.subpage.specs.ItemView.{item_view}
use Rattle.page_write.specs.Fill.{opened}
use Rattle.page_write.specs.PageBytes.{IsPackable}
use Rattle.page_write.proofs.Filling.{opened_small}
use Rattle.page_write.proofs.room.opened_by.Goals as goal

pub returns-in-Event-clause-small : goal.returns-in-Event-clause-small
unfolding opened
returns-in-Event-clause-small c =
    let ok = subst (λ i. IsPackable c.args.layout.now (item_view i)) c.in-Event.is c.requires.packable in
    let small = opened_small c.args.layout.now (EventAt c.in-Event.time c.in-Event.payload.now) ok in
    omega (arith, c.len_of_event.ensures.value, small)
