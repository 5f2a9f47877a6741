use Rattle.std.proofs.Common.{◌≡◌, ℕ, List, Some, is_some, IsSome, subst, sym, ap, ◌∙◌, refl}
use Rattle.std.proofs.lemmas.Result.{IfOk-weaker}
use Rattle.subpage.specs.Page.{items}
use Rattle.subpage.specs.Processor.{is_there, items_at, page_bytes}
use Rattle.subpage.specs.Marks.{items_from}
use Rattle.page_pool.specs.InOrder.{all_items}
use Rattle.event_cursor.proofs.Told.{told_all, told_map}
use Rattle.event_cursor.proofs.Returning.{holds_checked, items_held}
use Rattle.event_cursor.proofs.seeking.turn_to.Goals as goal

pub open_checked-requires-clause-checked : goal.open_checked-requires-clause-checked
open_checked-requires-clause-checked g c =
    let held = c.if-holds_page.ensures.0 refl in
    subst (λ (p : List ℕ). IsSome (items c.args.lane.now.layout p)) (sym c.bytes.ensures) (ap is_some (c.args.lane.now.in_order.held held.0).all_are)

pub returns-then-holds_page-clause-holds : goal.returns-then-holds_page-clause-holds
returns-then-holds_page-clause-holds g c =
    let held = c.if-holds_page.ensures.0 refl in
    let here = c.args.lane.now.in_order.held held.0 in
    holds_checked c.args.lane.now.layout c.args.lane.now.page c.bytes.result.now (all_items c.args.lane.now.layout c.args.lane.now.page) c.open_checked.result c.bytes.ensures here.all_are here.few c.open_checked.ensures.mark c.open_checked.ensures.exact

pub returns-then-holds_page-clause-told : goal.returns-then-holds_page-clause-told
returns-then-holds_page-clause-told g c =
    let l = c.args.lane.now.layout in
    let a = c.args.lane.now in
    let held = c.if-holds_page.ensures.0 refl in
    let first = c.open_checked.result in
    let exact : Some (items_from l a.page first) ≡ items l a.page = subst (λ (p : List ℕ). Some (items_from l p first) ≡ items l p) c.bytes.ensures c.open_checked.ensures.exact in
    told_all _ (g.F.File.bytes c.args.file.now) (λ file stands. ap (items_at a.layout file a.part) (sym held.1) ∙ items_held file a (stands.own held.0) ∙ sym exact)

pub returns-then-holds_page-clause-own : goal.returns-then-holds_page-clause-own
returns-then-holds_page-clause-own g c =
    let l = c.args.lane.now.layout in
    let a = c.args.lane.now in
    let held = c.if-holds_page.ensures.0 refl in
    told_all _ (g.F.File.bytes c.args.file.now) (λ file stands. let own = stands.own held.0 in
    (ap (is_there a.layout file a.part) (sym held.1) ∙ own.there, own.page ∙ ap (page_bytes a.layout file a.part) held.1))

pub returns-clause-told : goal.returns-clause-told
returns-clause-told g c = IfOk-weaker c.fetch.result _ _ (λ found told. told_map _ _ (g.F.File.bytes c.args.file.now) (λ file is stands. is) told) c.fetch.ensures.told

pub returns-clause-own : goal.returns-clause-own
returns-clause-own g c = IfOk-weaker c.fetch.result _ _ (λ found told. told_map _ _ (g.F.File.bytes c.args.file.now) (λ file own stands. own) told) c.fetch.ensures.own
