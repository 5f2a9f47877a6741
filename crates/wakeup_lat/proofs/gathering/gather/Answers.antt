use Rattle.subpage.specs.Cut.{reached_of}
use Rattle.event_cursor.proofs.Told.{told_map}
use Rattle.wakeup_lat.proofs.Mattering.{pairs_are}
use Rattle.wakeup_lat.proofs.gathering.gather.Goals as goal

pub returns-clause-pairs : goal.returns-clause-pairs
returns-clause-pairs g c =
    told_map _ _ (g.F.File.bytes c.args.file.now) (λ file is. pairs_are c.args.context.now (reached_of c.args.layout.now file c.args.parts.now) c.pass.new.gathered is)
    c.in_ok-pass.ensures.gathered
