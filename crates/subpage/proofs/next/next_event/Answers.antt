use Rattle.std.proofs.Common.{refl, arith, ◌≡◌, ℕ, ◌<◌, ◌++◌, length, ◌∙◌, sym, ap}
use Rattle.std.specs.Option.{option_map}
use Rattle.subpage.specs.declared.element.Element.{Element}
use Rattle.subpage.specs.declared.element.Element.TheVariants as code
use Rattle.subpage.specs.Element.{ElementData, Event}
use Rattle.subpage.specs.ElementView.{element_view}
use Rattle.subpage.specs.ItemData.{told_by}
use Rattle.subpage.specs.Reading.{walk}
use Rattle.subpage.proofs.Walking.{walk_none, goes_on, too_late, passes, at_end, IsEvent}
use Rattle.subpage.proofs.Suffixes.{suffix_step, suffix_whole}
use Rattle.subpage.proofs.Payloads.{payload_step}
use Rattle.subpage.proofs.next.next_event.Goals as goal

pub returns-in_default-clause-next : goal.returns-in_default-clause-next
returns-in_default-clause-next c =
    let some : 0 < length c.loop-rest.rest.now = grind arith in
    sym c.loop-rest.invariant.same ∙ walk_none c.args.order c.loop-rest.time c.loop-rest.rest.now some (sym c.in_default.ensures)

pub returns-in_default-time_behind-clause-next : goal.returns-in_default-time_behind-clause-next
returns-in_default-time_behind-clause-next c =
    sym c.loop-rest.invariant.same ∙ too_late c.args.order c.loop-rest.time c.loop-rest.rest.now (element_view c.in-Some.element) c.in-Some.behind.now c.in-Some.ensures c.in_default-time_behind.ensures

pub returns-in-Event-clause-next : goal.returns-in-Event-clause-next
returns-in-Event-clause-next c =
    let t = goes_on c.args.order c.loop-rest.time c.loop-rest.rest.now (element_view c.in-Some.element) c.in-Some.behind.now c.in-Some-time_behind.after c.in-Some.ensures c.in-Some-time_behind.ensures in
    let e : element_view c.in-Some.element ≡ Event c.in-Event.delta c.in-Event.payload.now = ap element_view c.in-Event.is in
    (sym c.loop-rest.invariant.same ∙ t.0 ∙ ap (λ (x : ElementData). option_map (λ xs. told_by c.in-Some-time_behind.after x ++ xs) (walk c.args.order c.in-Some-time_behind.after c.in-Some.behind.now)) e, omega arith)

no_event : (e : Element) → ((x : ℕ) → (p : _) → e ≡ code.Event x p → ⊥) → IsEvent (element_view e) → ⊥
no_event (code.Event d p) never is = never d p refl
no_event code.End never is = is
no_event (code.Discarded d) never is = is
no_event (code.Extend d) never is = is
no_event (code.Stamp s) never is = is

pub returns-in-Event-clause-suffix : goal.returns-in-Event-clause-suffix
returns-in-Event-clause-suffix c =
    suffix_step c.args.order c.loop-rest.rest.now (element_view c.in-Some.element) c.in-Some.behind.now c.args.bytes.now c.in-Some.ensures c.loop-rest.invariant.suffix c.loop-rest.invariant.left

pub returns-in-Event-clause-payload : goal.returns-in-Event-clause-payload
returns-in-Event-clause-payload c =
    payload_step c.args.order c.loop-rest.rest.now (element_view c.in-Some.element) c.in-Some.behind.now c.args.bytes.now c.in-Event.delta c.in-Event.payload.now c.in-Some.ensures
    (ap element_view c.in-Event.is) c.loop-rest.invariant.suffix c.loop-rest.invariant.left

pub loop-rest-init : goal.loop-rest-init
loop-rest-init c = record { same = refl; left = omega arith; suffix = suffix_whole c.args.bytes.now }

pub loop-rest-smaller : goal.loop-rest-smaller
loop-rest-smaller c =
    let t = goes_on c.args.order c.loop-rest.time c.loop-rest.rest.now (element_view c.in-Some.element) c.in-Some.behind.now c.in-Some-time_behind.after c.in-Some.ensures c.in-Some-time_behind.ensures in
    t.1

pub loop-rest-preserved : goal.loop-rest-preserved
loop-rest-preserved c =
    let t = goes_on c.args.order c.loop-rest.time c.loop-rest.rest.now (element_view c.in-Some.element) c.in-Some.behind.now c.in-Some-time_behind.after c.in-Some.ensures c.in-Some-time_behind.ensures in
    record {
      same = sym (passes c.in-Some-time_behind.after (element_view c.in-Some.element) (walk c.args.order c.in-Some-time_behind.after c.in-Some.behind.now) (no_event c.in-Some.element c.in_default-element.not-Event)) ∙ sym t.0 ∙ c.loop-rest.invariant.same;
      left = omega arith;
      suffix = suffix_step c.args.order c.loop-rest.rest.now (element_view c.in-Some.element) c.in-Some.behind.now c.args.bytes.now c.in-Some.ensures c.loop-rest.invariant.suffix c.loop-rest.invariant.left;
    }

pub returns-clause-next : goal.returns-clause-next
returns-clause-next c =
    let none : length c.loop-rest.rest.now ≡ 0 = grind arith in
    sym c.loop-rest.invariant.same ∙ at_end c.args.order c.loop-rest.time c.loop-rest.rest.now none
