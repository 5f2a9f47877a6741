use Rattle.event_cursor.proofs.Told.{told_map}
use Rattle.time_merge.proofs.in_step.next_lane_by.Goals as goal

pub returns-clause-next : goal.returns-clause-next
returns-clause-next g c = told_map _ _ (g.F.File.bytes c.args.file.now) (λ bytes stands h. c.next_in.ensures.next bytes (stands h)) c.make_ready_by.ensures.loads.stands
