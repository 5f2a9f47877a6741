use Rattle.std.specs.List.{flat_map}
use Rattle.std.proofs.lemmas.Iterator.{YieldsList-from_slice}
use Rattle.dump_tool.specs.Lists.{system_formats}
use Rattle.dump_tool.proofs.EntriesPut.{both_put, first_stopped, entries_put}
use Rattle.dump_tool.proofs.lists.put_events.Goals as goal

pub returns-in_err-put_heading : goal.returns-in_err-put_heading
returns-in_err-put_heading g c =
    rw (← c.event_count.ensures)
    (first_stopped _ (flat_map system_formats c.args.systems.now) _ _ _ c.from_residual.result c.in_err-put_heading.ensures c.from_residual.ensures.0)

pub returns : goal.returns
returns g c =
    rw (← c.event_count.ensures)
    (both_put _ (flat_map system_formats c.args.systems.now) _ _ _ c.put_each.result c.in_ok-put_heading.ensures
    (entries_put system_formats _ _ _ (YieldsList-from_slice c.args.systems.now cc) (λ texts yields. c.put_each.ensures _ texts yields (λ _ _ _ _ _ _ put. put))))
