use Rattle.std.proofs.Common.{◌≡◌, ◌<◌, ℕ, List, IfSome, get_or, sym, ap, subst, ◌∙◌, rules}
use Rattle.subpage.specs.Marks.{items_from}
use Rattle.page_pool.specs.declared.cursor.LaneState.{LaneState}
use Rattle.page_pool.specs.declared.cursor.LaneState.TheVariants.{Held}
use Rattle.event_cursor.specs.Keys.{first_of, keyed_behind}
use Rattle.page_pool.specs.InOrder.{TellsAhead}
use Rattle.event_cursor.specs.Standing.{if_held}
use Rattle.event_cursor.specs.Stepping.{IsHead}
use Rattle.event_cursor.proofs.OneOn.{head_is}
use Rattle.event_cursor.proofs.stepping.head.Goals as goal

pub head_at-requires : goal.head_at-requires
head_at-requires c =
    let a = c.args.lane.now in
    let held : a.cursor.state ≡ Held = search rules in
    subst (λ (p : List ℕ). TellsAhead a.layout p a.cursor.mark a.cursor.high a.cursor.ahead) (sym c.bytes.ensures) (a.in_order.held held).ahead

pub returns-clause-head : goal.returns-clause-head
returns-clause-head c =
    let a = c.args.lane.now in
    let l = a.layout in
    let held : a.cursor.state ≡ Held = search rules in
    let items = items_from l a.page a.cursor.mark in
    let first : IsHead a.cursor.high items c.head_at.result = subst (λ (p : List ℕ). IsHead a.cursor.high (items_from l p a.cursor.mark) c.head_at.result) c.bytes.ensures c.head_at.ensures.head in
    head_is a.cpu a.cursor.high items c.head_at.result first ∙ ap (λ (s : LaneState). first_of (keyed_behind a.cpu a.cursor.high (if_held s items))) (sym held)

pub returns-clause-bytes : goal.returns-clause-bytes
returns-clause-bytes c =
    subst (λ (p : List ℕ). IfSome c.head_at.result (λ head. (i : ℕ) → get_or p i 0 < 256)) c.bytes.ensures c.head_at.ensures.bytes
