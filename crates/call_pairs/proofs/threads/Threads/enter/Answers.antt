use Rattle.std.proofs.Common.{rules, List, ◌∷◌, ap, ◌∙◌, refl}
use Rattle.call_pairs.specs.declared.stacks.Open.{Open}
use Rattle.call_pairs.specs.Threads.{thread_of}
use Rattle.call_pairs.specs.Stacks.{shallower}
use Rattle.call_pairs.proofs.ThreadPlaces.{changed_places, entered, is_changed}
use Rattle.call_pairs.proofs.TracingSteps.{on_one, on_three}
use Rattle.call_pairs.proofs.threads.Threads.enter.Goals as goal

pub returns-clause-places : goal.returns-clause-places
returns-clause-places c = on_one c.enter.result c.enter.ensures.thread (λ own.
    changed_places (thread_of c.args.entry.now) c.in_ok-i.i c.index_mut-stack.result.now c.enter.new.self c.place.new.self _ c.in_ok-i.ensures.places
    (is_changed (thread_of c.args.entry.now) c.of.result c.in_ok-i.i c.index_mut-stack.result.now c.enter.new.self c.place.new.self _ c.of.ensures c.in_ok-i.ensures.there (search rules) (own ∙ c.forget.ensures.thread) refl refl))

pub returns-clause-entered : goal.returns-clause-entered
returns-clause-entered c = on_three c.enter.result c.enter.ensures.thread c.enter.ensures.opens c.enter.ensures.last (λ own opens last.
    entered c.args.since c.args.place c.args.entry.now c.in_ok-i.i c.index_mut-stack.result.now c.enter.new.self c.args.self.now c.place.new.self _ c.in_ok-i.ensures.told c.in_ok-i.ensures.places
    (is_changed (thread_of c.args.entry.now) c.of.result c.in_ok-i.i c.index_mut-stack.result.now c.enter.new.self c.place.new.self _ c.of.ensures c.in_ok-i.ensures.there (search rules) (own ∙ c.forget.ensures.thread) refl refl)
    last (opens ∙ ap (λ (l : List Open). record { place = c.args.place; entry = c.args.entry.now } ∷ shallower c.args.entry.now.depth l) c.forget.ensures.opens))
