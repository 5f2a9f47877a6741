use Rattle.event_cursor.specs.Standing.{held_left}
use Rattle.event_cursor.proofs.KeyLaws.{none_held}
use Rattle.lane_tests.proofs.tests.cursors.holds_item.Goals as goal

pub returns-in-None-clause-none : goal.returns-in-None-clause-none
returns-in-None-clause-none c = λ t. none_held c.args.lane.now.cpu c.args.lane.now.cursor.high (held_left c.args.lane.now) c.in-None.ensures.head
