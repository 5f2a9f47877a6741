use Rattle.time_merge.proofs.Turning.{has_turn, if_some}
use Rattle.time_merge.proofs.in_step.turn_of.Goals as goal

pub returns : goal.returns
returns c = if_some c.up_to.result c.up_to.ensures (λ until least bytes stands.
    has_turn bytes c.args.lanes.now c.args.nexts.now c.args.i until stands c.requires.slots c.requires.in_step least c.requires.rise)
