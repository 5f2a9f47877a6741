use Rattle.std.proofs.Common.{◌≡◌, ◌<◌, List, length, get_or, ap, subst, sym, ◌∙◌}
use Rattle.std.specs.Option.{option_map}
use Rattle.std.proofs.lemmas.List.{get_or_default}
use Rattle.page_pool.specs.declared.lane.Lane.{Lane}
use Rattle.event_cursor.specs.Keys.{first_of}
use Rattle.event_cursor.specs.Standing.{keyed_held}
use Rattle.event_cursor.specs.Stepping.{head_view}
use Rattle.time_merge.specs.LanesSeen.{LanesSeen}
use Rattle.time_merge.proofs.lanes.Lanes.head.Goals as goal

pub returns : goal.returns
returns c =
    let a = c.self.inside in
    let i = c.args.i in
    let x = c.index-lanes-i.result in
    let lt : i < length a.pool = subst (λ (v : LanesSeen). i < length v.all) (sym c.self.view_is) c.requires in
    let here : x ≡ get_or a.pool i x = c.index-lanes-i.is ∙ ap (λ (lanes : List Lane). get_or lanes i x) c.all-lanes.ensures in
    subst (λ (v : LanesSeen). (e : Lane) → option_map (λ head. head_view (get_or v.all i e).cpu head) c.head.result ≡ first_of (keyed_held (get_or v.all i e))) c.self.view_is
    (λ e. subst (λ (y : Lane). option_map (λ head. head_view y.cpu head) c.head.result ≡ first_of (keyed_held y)) (here ∙ get_or_default a.pool i x e lt) c.head.ensures.head)
