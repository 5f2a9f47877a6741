use Rattle.event_cursor.proofs.Told.{told_map}
use Rattle.time_merge.proofs.next_lanes.next_lane.Goals as goal

pub returns-clause-next : goal.returns-clause-next
returns-clause-next g c = told_map _ _ (g.F.File.bytes c.args.file.now) (λ bytes stands h. c.next_at.ensures.next bytes (stands h)) c.make_all_ready.ensures.loads.stands
