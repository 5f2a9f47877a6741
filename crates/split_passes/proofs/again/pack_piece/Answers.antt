use Rattle.std.proofs.Common.{refl, sym, ap, arith, ◌∙◌, ◌≡◌, ◌<◌, []}
use Rattle.std.proofs.lemmas.Result.{err_from_is_err_and}
use Rattle.trace_base.specs.declared.layout.Layout.{Layout}
use Rattle.trace_base.proofs.Layouts.{carried}
use Rattle.trace_outside.specs.Causes.{Rose}
use Rattle.trace_outside.proofs.Gains.{gained_nothing}
use Rattle.page_pool.proofs.Keeping.{lane_kept}
use Rattle.event_cursor.proofs.Told.{told_all, told_map, told_again}
use Rattle.split_passes.proofs.PackingLaws.{causes_later, causes_of_reach}
use Rattle.split_passes.proofs.Reading.{from_there, no_front, no_way_back, way_back}
use Rattle.split_passes.proofs.Returning.{nothing_again, enough, front_reached, same_items, not_reached, not_packed, not_back, told_twice}
use Rattle.split_passes.proofs.again.pack_piece.Goals as goal

pub returns-then-count-eq0-clause-told : goal.returns-then-count-eq0-clause-told
returns-then-count-eq0-clause-told g c =
    told_all _ (g.F.File.bytes c.args.file.now) (λ file s xs f. nothing_again file c.args.lane.now c.args.front.now c.args.count xs _ c.if-count-eq0.true f s)

pub returns-in_err-seek_to-clause-told : goal.returns-in_err-seek_to-clause-told
returns-in_err-seek_to-clause-told g c =
    let many : c.args.count ≡ 0 → ⊥ = c.if-count-eq0.false in
    let some : 0 < c.args.count = omega (arith, many) in
    let p = err_from_is_err_and c.from_residual.result c.from_residual.ensures.1 in
    rw (p.1, p.2) (told_map _ _ (g.F.File.bytes c.args.file.now) (λ file there s xs f. not_reached c.args.lane.now.layout file xs c.args.lane.now c.seek_to.new.lane (g.O.Sink.written c.args.out.now) (g.O.Sink.written c.args.out.now) c.args.lane.now.part c.args.front.now c.seek_to.new.lane _ (f.place some).has (there s)) c.in_err-seek_to.ensures.told)

pub returns-in_err-pack_items-clause-told : goal.returns-in_err-pack_items-clause-told
returns-in_err-pack_items-clause-told g c =
    let many : c.args.count ≡ 0 → ⊥ = c.if-count-eq0.false in
    let some : 0 < c.args.count = omega (arith, many) in
    let p = err_from_is_err_and c.from_residual-in_err-pack_items.result c.from_residual-in_err-pack_items.ensures.1 in
    rw (p.1, p.2) (told_again _ _ _ (g.F.File.bytes c.args.file.now) (g.F.File.bytes c.seek_to.new.file) c.seek_to.ensures.keeps.bytes (λ file there packed s xs f.
    let again = (there s).1 (f.place some) in
    not_packed c.args.lane.now.layout file xs c.args.lane.now c.pack_items.new.lane (g.O.Sink.written c.args.out.now) (g.O.Sink.written c.pack_items.new.out) c.args.count c.args.lane.now.cursor.next c.seek_to.new.lane c.pack_items.new.lane _
    (enough file c.args.lane.now c.seek_to.new.lane c.args.front.now c.args.count xs some f c.seek_to.ensures.part.layout c.seek_to.ensures.part.part again) (packed again.stands))
    c.in_ok-seek_to.ensures.told c.in_err-pack_items.ensures.told)

pub returns-in_err-go_back-clause-told : goal.returns-in_err-go_back-clause-told
returns-in_err-go_back-clause-told g c =
    let many : c.args.count ≡ 0 → ⊥ = c.if-count-eq0.false in
    let some : 0 < c.args.count = omega (arith, many) in
    let keeps = lane_kept c.seek_to.ensures.part c.pack_items.ensures.goes.part in
    let p = err_from_is_err_and c.from_residual-in_err-go_back.result c.from_residual-in_err-go_back.ensures.1 in
    rw (p.1, p.2) (told_twice _ _ _ _ (g.F.File.bytes c.args.file.now) (g.F.File.bytes c.seek_to.new.file) (g.F.File.bytes c.pack_items.new.file) c.seek_to.ensures.keeps.bytes (c.pack_items.ensures.goes.keeps.bytes ∙ c.seek_to.ensures.keeps.bytes) (λ file there packed back s xs f.
    let there = (there s).1 (f.place some) in
    let packed = packed there.stands in
    not_back c.args.lane.now.layout file xs c.args.lane.now c.go_back.new.lane (g.O.Sink.written c.args.out.now) (g.O.Sink.written c.pack_items.new.out) _ (back packed.stands c.args.lane.now refl keeps s))
    c.in_ok-seek_to.ensures.told c.in_ok-pack_items.ensures.told c.in_err-go_back.ensures.told)

pub returns-in_err-seek_to-clause-causes : goal.returns-in_err-seek_to-clause-causes
returns-in_err-seek_to-clause-causes g c =
    let p = err_from_is_err_and c.from_residual.result c.from_residual.ensures.1 in
    rw (p.1, p.2) (causes_of_reach _ _ _ _ _ c.in_err-seek_to.ensures.read)

pub returns-in_err-pack_items-clause-causes : goal.returns-in_err-pack_items-clause-causes
returns-in_err-pack_items-clause-causes g c =
    let p = err_from_is_err_and c.from_residual-in_err-pack_items.result c.from_residual-in_err-pack_items.ensures.1 in
    rw (p.1, p.2) (causes_later _ _ _ _ _ _ _ c.seek_to.ensures.keeps.later (omega arith) c.in_err-pack_items.ensures.causes)

pub returns-in_err-go_back-clause-causes : goal.returns-in_err-go_back-clause-causes
returns-in_err-go_back-clause-causes g c =
    let p = err_from_is_err_and c.from_residual-in_err-go_back.result c.from_residual-in_err-go_back.ensures.1 in
    rw (p.1, p.2) (causes_of_reach _ _ _ _ _ (λ is.
    let rose : Rose (g.F.File.faults c.pack_items.new.file) (g.F.File.faults c.go_back.new.file) = c.in_err-go_back.ensures.read is in
    omega (arith, rose, c.pack_items.ensures.goes.keeps.later, c.seek_to.ensures.keeps.later)))

pub returns-clause-told : goal.returns-clause-told
returns-clause-told g c =
    let many : c.args.count ≡ 0 → ⊥ = c.if-count-eq0.false in
    let some : 0 < c.args.count = omega (arith, many) in
    let keeps = lane_kept c.seek_to.ensures.part c.pack_items.ensures.goes.part in
    told_twice _ _ _ _ (g.F.File.bytes c.args.file.now) (g.F.File.bytes c.seek_to.new.file) (g.F.File.bytes c.pack_items.new.file) c.seek_to.ensures.keeps.bytes (c.pack_items.ensures.goes.keeps.bytes ∙ c.seek_to.ensures.keeps.bytes) (λ file there packed back s xs f.
    let there = (there s).1 (f.place some) in
    let p = packed there.stands in
    (back p.stands c.args.lane.now refl keeps s, same_items file c.args.lane.now c.seek_to.new.lane c.pack_items.new.lane c.args.front.now c.args.count xs _ _ some f c.seek_to.ensures.part.layout c.seek_to.ensures.part.part there p))
    c.in_ok-seek_to.ensures.told c.in_ok-pack_items.ensures.told c.in_ok-go_back.ensures.told

pub returns-then-front-back-clause-told : goal.returns-then-front-back-clause-told
returns-then-front-back-clause-told g c =
    let many : c.args.count ≡ 0 → ⊥ = c.if-count-eq0.false in
    told_all _ (g.F.File.bytes c.args.file.now) (λ file s xs f. front_reached file c.args.lane.now c.args.front.now c.args.count xs (omega (arith, (carried c.args.lane.now.layout).page_least)) (omega (arith, many)) f s c.if-front-back.true)

pub pack_items-requires-clause-held : goal.pack_items-requires-clause-held
pack_items-requires-clause-held g c = c.in_ok-seek_to.ensures.holds.state

pub pack_items-requires-clause-within : goal.pack_items-requires-clause-within
pack_items-requires-clause-within g c = let next = c.in_ok-seek_to.ensures.holds.next in omega (arith, next, c.if-front-back.false)

pub returns-clause-numbers : goal.returns-clause-numbers
returns-clause-numbers g c = c.in_ok-go_back.ensures.numbers (λ held. (c.args.lane.now.in_order.held held).next)

pub returns-clause-reads : goal.returns-clause-reads
returns-clause-reads g c =
    let some : 0 < c.args.lane.now.layout.page = omega (arith, (carried c.args.lane.now.layout).page_least) in
    let at = c.in_ok-seek_to.ensures.holds.next in
    let stays = c.in_ok-pack_items.ensures.came.stays in
    way_back (g.F.File.size c.args.file.now) c.args.lane.now c.args.front.now c.args.count _ _ some c.if-count-eq0.false c.if-front-back.false c.seek_to.ensures.reads c.seek_to.ensures.held
    c.pack_items.new.lane (g.F.File.size c.pack_items.new.file) _ _ (c.pack_items.ensures.goes.keeps.size ∙ c.seek_to.ensures.keeps.size) (c.pack_items.ensures.goes.part.layout ∙ c.seek_to.ensures.part.layout) (c.pack_items.ensures.goes.part.part ∙ c.seek_to.ensures.part.part) stays.held
    (omega (arith, at, stays.forward)) stays.within
    (from_there c.args.lane.now.layout (g.F.File.size c.args.file.now) (g.F.File.size c.seek_to.new.file) c.args.lane.now.part c.args.front.now.page c.seek_to.new.lane _ _ _ c.seek_to.ensures.keeps.size c.seek_to.ensures.part.layout c.seek_to.ensures.part.part at c.in_ok-pack_items.ensures.came.reads)
    c.go_back.ensures.reads c.go_back.ensures.held c.go_back.ensures.other

pub returns-in_err-go_back-clause-reads : goal.returns-in_err-go_back-clause-reads
returns-in_err-go_back-clause-reads g c =
    let some : 0 < c.args.lane.now.layout.page = omega (arith, (carried c.args.lane.now.layout).page_least) in
    let at = c.in_ok-seek_to.ensures.holds.next in
    let stays = c.in_ok-pack_items.ensures.came.stays in
    way_back (g.F.File.size c.args.file.now) c.args.lane.now c.args.front.now c.args.count _ _ some c.if-count-eq0.false c.if-front-back.false c.seek_to.ensures.reads c.seek_to.ensures.held
    c.pack_items.new.lane (g.F.File.size c.pack_items.new.file) _ _ (c.pack_items.ensures.goes.keeps.size ∙ c.seek_to.ensures.keeps.size) (c.pack_items.ensures.goes.part.layout ∙ c.seek_to.ensures.part.layout) (c.pack_items.ensures.goes.part.part ∙ c.seek_to.ensures.part.part) stays.held
    (omega (arith, at, stays.forward)) stays.within
    (from_there c.args.lane.now.layout (g.F.File.size c.args.file.now) (g.F.File.size c.seek_to.new.file) c.args.lane.now.part c.args.front.now.page c.seek_to.new.lane _ _ _ c.seek_to.ensures.keeps.size c.seek_to.ensures.part.layout c.seek_to.ensures.part.part at c.in_ok-pack_items.ensures.came.reads)
    c.go_back.ensures.reads c.go_back.ensures.held c.go_back.ensures.other

pub returns-in_err-seek_to-clause-reads : goal.returns-in_err-seek_to-clause-reads
returns-in_err-seek_to-clause-reads g c =
    no_front (g.F.File.size c.args.file.now) c.args.lane.now c.args.front.now c.args.count _ _ (omega (arith, (carried c.args.lane.now.layout).page_least))
    c.if-count-eq0.false c.if-front-back.false c.seek_to.ensures.reads c.seek_to.ensures.held

pub returns-in_err-pack_items-clause-reads : goal.returns-in_err-pack_items-clause-reads
returns-in_err-pack_items-clause-reads g c =
    let at = c.in_ok-seek_to.ensures.holds.next in
    no_way_back (g.F.File.size c.args.file.now) c.args.lane.now c.args.front.now c.args.count _ _ (omega (arith, (carried c.args.lane.now.layout).page_least))
    c.if-count-eq0.false c.if-front-back.false c.seek_to.ensures.reads c.seek_to.ensures.held _
    (from_there c.args.lane.now.layout (g.F.File.size c.args.file.now) (g.F.File.size c.seek_to.new.file) c.args.lane.now.part c.args.front.now.page c.seek_to.new.lane _ _ _ c.seek_to.ensures.keeps.size c.seek_to.ensures.part.layout c.seek_to.ensures.part.part at c.pack_items.ensures.goes.reads)

pub returns-then-count-eq0-clause-gains : goal.returns-then-count-eq0-clause-gains
returns-then-count-eq0-clause-gains g c = ([], gained_nothing (g.O.Sink.written c.args.out.now))

pub pack_items-requires-clause-whole : goal.pack_items-requires-clause-whole
pack_items-requires-clause-whole g c = c.requires.whole ∙ ap (λ (k : Layout). k.page) (sym c.seek_to.ensures.part.layout)

pub returns-in_err-pack_items-clause-whole : goal.returns-in_err-pack_items-clause-whole
returns-in_err-pack_items-clause-whole g c = c.pack_items.ensures.whole ∙ ap (λ (k : Layout). k.page) c.seek_to.ensures.part.layout

pub returns-in_err-go_back-clause-whole : goal.returns-in_err-go_back-clause-whole
returns-in_err-go_back-clause-whole g c = c.pack_items.ensures.whole ∙ ap (λ (k : Layout). k.page) c.seek_to.ensures.part.layout

pub returns-clause-whole : goal.returns-clause-whole
returns-clause-whole g c = c.pack_items.ensures.whole ∙ ap (λ (k : Layout). k.page) c.seek_to.ensures.part.layout
