use Rattle.std.proofs.Common.{sym, ◌∙◌}
use Rattle.std.specs.Int.{w32}
use Rattle.std.proofs.lemmas.Int.{to_z-of_z}
use Rattle.wakeup_pairs.proofs.Maps.{woken_again, woken_first}
use Rattle.wakeup_pairs.proofs.pairs.Wakeups.wake.Goals as goal

pub returns-then-contains_key-clause-seen : goal.returns-then-contains_key-clause-seen
returns-then-contains_key-clause-seen c =
    woken_again c.self.inside.waiting c.self.inside.pairs.items c.args.self.now c.self.view_is (record { task = c.args.task; time = c.args.time })
    (rw (to_z-of_z w32 c.args.task c.ranges.task) at (sym c.contains_key.ensures ∙ c.if-contains_key.true))

pub returns-clause-seen : goal.returns-clause-seen
returns-clause-seen c =
    woken_first c.self.inside.waiting c.insert.new.self c.self.inside.pairs.items c.args.self.now c.self.view_is (record { task = c.args.task; time = c.args.time })
    (rw (to_z-of_z w32 c.args.task c.ranges.task) at (sym c.contains_key.ensures ∙ c.if-contains_key.false))
    (rw (to_z-of_z w32 c.args.task c.ranges.task) at c.in_ok-insert.ensures.updates.0)
