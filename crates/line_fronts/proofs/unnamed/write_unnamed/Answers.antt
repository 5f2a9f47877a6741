use Rattle.line_fronts.proofs.Pids.{wide, wider}
use Rattle.line_fronts.proofs.unnamed.write_unnamed.Goals as goal

pub returns-then-pid-lt1000000-clause-value : goal.returns-then-pid-lt1000000-clause-value
returns-then-pid-lt1000000-clause-value c =
    wide c.args.pid c.put_at-then-pid-lt1000000.new.text c.put_six.new.text c.args.text.now c.if-pid-lt100000.false c.if-pid-lt1000000.true
    c.put_at-then-pid-lt1000000.ensures c.put_six.ensures

pub returns-else-pid-lt1000000-clause-value : goal.returns-else-pid-lt1000000-clause-value
returns-else-pid-lt1000000-clause-value c =
    wider c.args.pid c.put_at-else-pid-lt1000000.new.text c.put_seven.new.text c.args.text.now c.if-pid-lt1000000.false c.requires
    c.put_at-else-pid-lt1000000.ensures c.put_seven.ensures
