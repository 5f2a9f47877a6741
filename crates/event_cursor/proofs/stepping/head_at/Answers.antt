use Rattle.std.proofs.Common.{◌≡◌, ◌∷◌, sym, ap, subst, ◌∙◌}
use Rattle.subpage.specs.ItemData.{ItemData}
use Rattle.subpage.specs.ItemView.{item_view}
use Rattle.subpage.specs.Marks.{items_from, mark_of}
use Rattle.event_cursor.specs.Keys.{key_behind}
use Rattle.page_pool.specs.InOrder.{HasAhead, TellsAhead, item_ahead}
use Rattle.event_cursor.proofs.stepping.head_at.Goals as goal

pub item_between-item-requires : goal.item_between-item-requires
item_between-item-requires c =
    let here : HasAhead c.args.layout.now c.args.page.now c.args.cursor.now.mark c.args.cursor.now.high c.in-Some.ahead =
    subst (TellsAhead c.args.layout.now c.args.page.now c.args.cursor.now.mark c.args.cursor.now.high) c.in-Some.is c.requires in
    here.inside

pub returns-in-Some-clause-head : goal.returns-in-Some-clause-head
returns-in-Some-clause-head c =
    let l = c.args.layout.now in
    let page = c.args.page.now in
    let cursor = c.args.cursor.now in
    let here : HasAhead l page cursor.mark cursor.high c.in-Some.ahead = subst (TellsAhead l page cursor.mark cursor.high) c.in-Some.is c.requires in
    let rest = items_from l page (mark_of c.in-Some.ahead.behind) in
    let same : item_ahead page cursor.mark c.in-Some.ahead ≡ item_view c.item_between-item.result = sym c.item_between-item.ensures in
    (rest, (here.items ∙ ap (λ (x : ItemData). x ∷ rest) same, here.key ∙ ap (key_behind cursor.high) same))

pub returns-in-Some-clause-bytes : goal.returns-in-Some-clause-bytes
returns-in-Some-clause-bytes c = λ i. (c.type_inv.page i).fits
