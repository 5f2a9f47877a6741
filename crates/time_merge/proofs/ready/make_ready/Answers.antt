use Rattle.time_merge.proofs.Advancing.{loads_none}
use Rattle.time_merge.proofs.Readying.{state_ready}
use Rattle.time_merge.proofs.ready.make_ready.Goals as goal

pub returns-clause-ready : goal.returns-clause-ready
returns-clause-ready g c = state_ready c.load.new.lane c.in_ok-load.field-0 c.in_ok-load.ensures.state

pub returns-then-not-wants_load-clause-loads : goal.returns-then-not-wants_load-clause-loads
returns-then-not-wants_load-clause-loads g c = loads_none g.F.File c.args.file.now c.args.lane.now
