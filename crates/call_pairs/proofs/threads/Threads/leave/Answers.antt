use Rattle.std.proofs.Common.{rules, ◌+◌, List, ap, ◌∙◌, refl}
use Rattle.call_pairs.specs.declared.stacks.Open.{Open}
use Rattle.call_pairs.specs.Threads.{thread_of}
use Rattle.call_pairs.specs.Stacks.{closing, shallower}
use Rattle.call_pairs.proofs.ThreadPlaces.{changed_places, is_changed, left}
use Rattle.call_pairs.proofs.threads.Threads.leave.Goals as goal

pub returns-clause-places : goal.returns-clause-places
returns-clause-places c =
    changed_places (thread_of c.args.exit.now) c.in_ok-i.i c.index_mut-stack.result.now c.leave-top.new.self c.place.new.self _ c.in_ok-i.ensures.places
    (is_changed (thread_of c.args.exit.now) c.of.result c.in_ok-i.i c.index_mut-stack.result.now c.leave-top.new.self c.place.new.self _ c.of.ensures c.in_ok-i.ensures.there (search rules) (c.leave-top.ensures.thread ∙ c.forget.ensures.thread) refl refl)

pub returns-clause-left : goal.returns-clause-left
returns-clause-left c =
    left c.args.since c.args.place c.args.exit.now c.in_ok-i.i c.index_mut-stack.result.now c.leave-top.new.self (record { top = c.leave-top.result; last = c.forget.new.self.last }) c.args.self.now c.place.new.self _ c.in_ok-i.ensures.told c.in_ok-i.ensures.places
    (is_changed (thread_of c.args.exit.now) c.of.result c.in_ok-i.i c.index_mut-stack.result.now c.leave-top.new.self c.place.new.self _ c.of.ensures c.in_ok-i.ensures.there (search rules) (c.leave-top.ensures.thread ∙ c.forget.ensures.thread) refl refl)
    c.leave-top.ensures.last
    (c.leave-top.ensures.opens ∙ ap (λ (l : List Open). shallower c.args.exit.now.depth l) c.forget.ensures.opens)
    (c.leave-top.ensures.result ∙ ap (λ (l : List Open). closing c.args.exit.now (shallower (c.args.exit.now.depth + 1) l)) c.forget.ensures.opens)
    c.forget.ensures.last
