use Rattle.std.proofs.Common.{◌≡◌, ℕ, List, inr, ap, subst, ◌∙◌}
use Rattle.subpage.specs.declared.mark.Mark.{Mark}
use Rattle.subpage.specs.Run.{run_bytes, time_at}
use Rattle.page_pool.specs.declared.lane.Lane.{Lane}
use Rattle.event_cursor.specs.Stepping.{IsSteppedOver}
use Rattle.split_pieces.specs.Allowing.{after_events}
use Rattle.split_passes.proofs.Lent.{lane_again}
use Rattle.split_passes.proofs.TurnLaws.{CountsRun, run_taken}
use Rattle.split_passes.proofs.taking.take_run.Goals as goal

pub returns-clause-taken : goal.returns-clause-taken
returns-clause-taken c =
    let l = c.args.lane.now.layout in
    let a = c.args.lane.now in
    let next : Mark = c.in-Some-next_taken.next in
    let count : ℕ = c.in-Some-next_taken.count in
    let r = c.in-Some-next_taken.ensures in
    let bytes : c.run_between-run.result.now ≡ run_bytes a.page a.cursor.mark next = c.run_between-run.ensures ∙ ap (λ (t : List ℕ). run_bytes t a.cursor.mark next) c.bytes.ensures in
    let counts : CountsRun l c.args.tally.now c.add_run.new.self (run_bytes a.page a.cursor.mark next) (time_at next) count =
    subst (λ (n : ℕ). CountsRun l c.args.tally.now c.add_run.new.self (run_bytes a.page a.cursor.mark next) n count) c.time.ensures
    (subst (λ (t : List ℕ). CountsRun l c.args.tally.now c.add_run.new.self t c.time.result count) bytes c.add_run.ensures) in
    inr (run_taken c.args.stop c.args.turn c.args.gauge.now c.takes_events.new.self c.args.tally.now c.add_run.new.self a c.step_run.new.lane c.in-Some.limits next count
    c.in-Some.ensures r (c.takes_events.ensures ∙ ap (after_events c.args.gauge.now) c.from.ensures) counts
    (subst (λ (b : Lane). IsSteppedOver r.run.items b c.step_run.new.lane) (lane_again a _) (c.step_run.ensures.used r.run)))
