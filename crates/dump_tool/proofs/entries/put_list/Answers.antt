use Rattle.std.specs.List.{concat}
use Rattle.dump_tool.proofs.EntriesPut.{both_put, first_stopped}
use Rattle.dump_tool.proofs.entries.put_list.Goals as goal

pub returns-in_err-put_heading : goal.returns-in_err-put_heading
returns-in_err-put_heading g c = λ text texts yields puts.
    rw (← c.len.ensures.value) (first_stopped _ (concat texts) _ _ _ c.from_residual.result c.in_err-put_heading.ensures c.from_residual.ensures.0)

pub returns : goal.returns
returns g c = λ text texts yields puts.
    rw (← c.len.ensures.value) (both_put _ (concat texts) _ _ _ c.put_each.result c.in_ok-put_heading.ensures (c.put_each.ensures text texts yields puts))
