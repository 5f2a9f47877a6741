use Rattle.std.proofs.Common.{◌≡◌, ◌<◌, ◌≤◌, ℕ, List, Option, Some, length, drop, refl, sym, ap, ◌∙◌, subst}
use Rattle.std.specs.Option.{option_map}
use Rattle.trace_base.specs.declared.layout.Layout.{Layout}
use Rattle.subpage.specs.declared.mark.Mark.{Mark}
use Rattle.subpage.specs.Marks.{items_from}
use Rattle.subpage.specs.Processor.{items_at}
use Rattle.event_cursor.specs.Fetched.{IsOwnPage}
use Rattle.event_cursor.specs.Places.{HasPlace, IsPlace}
use Rattle.event_cursor.proofs.Told.{told_both, told_map}
use Rattle.event_cursor.proofs.Returning.{never_fewer, never_none, has_place, stands_there}
use Rattle.event_cursor.proofs.seeking.seek.Goals as goal

pub returns-in_default-clause-told : goal.returns-in_default-clause-told
returns-in_default-clause-told g c =
    let b = c.turn_to.new.lane in
    let l = b.layout in
    let old = c.args.lane.now.part in
    told_map _ _ (g.F.File.bytes c.args.file.now) (λ file told stands p0.
    let p = subst (λ (k : Layout). HasPlace k file old c.args.place.now) (sym c.turn_to.ensures.part.layout) p0 in
    never_none l file b.part old c.args.place.now c.turn_to.ensures.part.part p
    (told stands ∙ ap (λ (o : Option Mark). option_map (λ mark. items_from l b.page mark) o) c.in_default.is))
    c.in_ok-found.ensures.told

pub returns-in_default-pass-clause-told : goal.returns-in_default-pass-clause-told
returns-in_default-pass-clause-told g c =
    let b = c.turn_to.new.lane in
    let l = b.layout in
    let old = c.args.lane.now.part in
    let few : length (items_from l b.page c.in-Some.first) < c.args.place.now.at = subst (λ (p : List ℕ). length (items_from l p c.in-Some.first) < c.args.place.now.at) c.bytes.ensures c.in_default-pass.ensures.few in
    told_map _ _ (g.F.File.bytes c.args.file.now) (λ file told stands p0.
    let p = subst (λ (k : Layout). HasPlace k file old c.args.place.now) (sym c.turn_to.ensures.part.layout) p0 in
    never_fewer l file b.part old c.args.place.now _ c.turn_to.ensures.part.part p
    (told stands ∙ ap (λ (o : Option Mark). option_map (λ mark. items_from l b.page mark) o) c.in-Some.is) few)
    c.in_ok-found.ensures.told

pub returns-clause-told : goal.returns-clause-told
returns-clause-told g c =
    let b = c.turn_to.new.lane in
    let l = b.layout in
    let old = c.args.lane.now.part in
    let all = items_from l b.page c.in-Some.first in
    let passed : items_from l b.page c.in-Some-pass.mark ≡ drop c.args.place.now.at all =
    subst (λ (p : List ℕ). items_from l p c.in-Some-pass.mark ≡ drop c.args.place.now.at (items_from l p c.in-Some.first)) c.bytes.ensures c.in-Some-pass.ensures.passed in
    let enough = subst (λ (p : List ℕ). c.args.place.now.at ≤ length (items_from l p c.in-Some.first)) c.bytes.ensures c.in-Some-pass.ensures.enough in
    told_both _ _ _ (g.F.File.bytes c.args.file.now) (λ file told own stands.
    let is : items_at l file b.part c.args.place.now.page ≡ Some all = told stands ∙ ap (λ (o : Option Mark). option_map (λ mark. items_from l b.page mark) o) c.in-Some.is in
    let page = subst (λ (o : Option Mark). IsOwnPage l file b.part c.args.place.now.page b.page o) c.in-Some.is (own stands) in
    let layout = c.turn_to.ensures.part.layout in (
      subst (λ (k : Layout). HasPlace k file old c.args.place.now) layout (has_place l file b.part old c.args.place.now all c.turn_to.ensures.part.part is enough),
      λ p0.
          let p = subst (λ (k : Layout). IsPlace k file old c.args.place.now) (sym layout) p0 in
          stands_there file _ old c.args.place.now all (items_from l b.page c.in-Some-pass.mark)
          (record { state = refl; held = refl; at = refl; high = refl; next = refl }) c.turn_to.ensures.part.part page is refl passed p,
    ))
    c.in_ok-found.ensures.told c.in_ok-found.ensures.own
