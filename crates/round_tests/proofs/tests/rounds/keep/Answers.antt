use Rattle.round_tests.proofs.FilledLanes.{kept_rises}
use Rattle.round_tests.proofs.tests.rounds.keep.Goals as goal

pub returns-clause-rises : goal.returns-clause-rises
returns-clause-rises c =
    (kept_rises c.args.lane.now.region c.put_line.new.self c.copy-len.new.into c.args.key c.copy-len.result c.args.last c.hole_in-hole.result c.put_line.ensures.value c.requires.not_before c.requires.rises c.requires.up_to).0

pub returns-clause-up_to : goal.returns-clause-up_to
returns-clause-up_to c =
    (kept_rises c.args.lane.now.region c.put_line.new.self c.copy-len.new.into c.args.key c.copy-len.result c.args.last c.hole_in-hole.result c.put_line.ensures.value c.requires.not_before c.requires.rises c.requires.up_to).1
