use Rattle.std.proofs.Common.{List, Some, None, length, ap, subst, arith}
use Rattle.std.proofs.lemmas.List.{length-map}
use Rattle.tournament_tree.specs.declared.slot_key.SlotKey.{SlotKey}
use Rattle.time_merge.specs.Nexts.{IsLeastAt}
use Rattle.round_print.specs.Prints.{head_kept}
use Rattle.round_print.proofs.DueHeads.{least_due_at, none_due_at, none_kept}
use Rattle.round_print.proofs.heads.least_due.Goals as goal

pub returns-in-None-clause-least : goal.returns-in-None-clause-least
returns-in-None-clause-least c =
    none_kept c.args.horizon.now c.args.lanes.now (subst (λ (keys : List SlotKey). IsLeastAt keys None) c.requires.heads c.in-None.ensures.least)

pub returns-in-None-head_due-clause-least : goal.returns-in-None-head_due-clause-least
returns-in-None-head_due-clause-least c =
    none_due_at c.args.horizon.now c.args.lanes.now c.in-Some.i c.index-lanes-i.result (omega (arith, c.in-Some.ensures.inside, ap length c.requires.heads, length-map c.args.lanes.now head_kept)) c.index-lanes-i.is c.requires.rise
    (subst (λ (keys : List SlotKey). IsLeastAt keys (Some c.in-Some.i)) c.requires.heads c.in-Some.ensures.least) c.in-None-head_due.ensures

pub returns-in-Some-head_due-clause-least : goal.returns-in-Some-head_due-clause-least
returns-in-Some-head_due-clause-least c =
    least_due_at c.args.horizon.now c.args.lanes.now c.in-Some.i c.index-lanes-i.result c.in-Some-head_due.field-0 (omega (arith, c.in-Some.ensures.inside, ap length c.requires.heads, length-map c.args.lanes.now head_kept)) c.index-lanes-i.is
    (subst (λ (keys : List SlotKey). IsLeastAt keys (Some c.in-Some.i)) c.requires.heads c.in-Some.ensures.least) c.in-Some-head_due.ensures
