use Rattle.std.proofs.Common.{rules, ap, ◌∙◌}
use Rattle.call_pairs.specs.StackMap.{thread_at}
use Rattle.call_pairs.proofs.ThreadPlaces.{is_added, added_places, added_there, added_told}
use Rattle.call_pairs.proofs.threads.Threads.add.Goals as goal

pub returns-clause-places : goal.returns-clause-places
returns-clause-places c = added_places c.args.thread c.new.result c.args.self.now _ c.requires.places
    (is_added c.args.thread c.new.result c.len-place.result c.args.self.now _ c.requires.new c.new.ensures.thread c.in_ok-push.ensures.items (search rules) c.in_ok-insert.ensures.updates.0)

pub returns-clause-there : goal.returns-clause-there
returns-clause-there c = ap (thread_at c.push.new.self.items) (search rules)
    ∙ added_there c.args.thread c.new.result c.args.self.now (record { stacks = c.push.new.self; map = c.insert.new.self; latest = c.args.self.now.latest; alloc = c.args.self.now.alloc })
    (is_added c.args.thread c.new.result c.len-place.result c.args.self.now _ c.requires.new c.new.ensures.thread c.in_ok-push.ensures.items (search rules) c.in_ok-insert.ensures.updates.0)

pub returns-clause-told : goal.returns-clause-told
returns-clause-told c = added_told c.args.thread c.new.result c.args.self.now _ c.requires.places
    (is_added c.args.thread c.new.result c.len-place.result c.args.self.now _ c.requires.new c.new.ensures.thread c.in_ok-push.ensures.items (search rules) c.in_ok-insert.ensures.updates.0) c.new.ensures.last
