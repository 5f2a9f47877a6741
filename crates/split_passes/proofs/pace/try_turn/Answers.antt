use Rattle.split_passes.proofs.TurnLaws.{turn_none}
use Rattle.split_passes.proofs.pace.try_turn.Goals as goal

pub returns-then-not-is_again : goal.returns-then-not-is_again
returns-then-not-is_again c = record {
  taken = λ d. turn_none c.args.stop (record { gauge = c.args.gauge.now; tally = c.args.tally.now }) c.args.lanes.now c.args.i d;
}
