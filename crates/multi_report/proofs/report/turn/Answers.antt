use Rattle.std.proofs.Common.{Err, List, Ok, ap, map, subst, sym}
use Rattle.tournament_tree.specs.declared.slot_key.SlotKey.{SlotKey}
use Rattle.multi_report.specs.Sources.{seen}
use Rattle.multi_report.specs.Turns.{IsUnderway, state_of}
use Rattle.multi_report.proofs.Going.{turned_write}
use Rattle.multi_report.proofs.TurnLaws.{cut_stopped, done_stopped, less_taken, read_stopped, readied_taken, same_taken, slot_of, taken_as, turn_cut, turn_done, turn_item, turn_nothing, turn_read, turn_stopped}
use Rattle.multi_report.proofs.report.turn.Goals as goal

pub returns-in_default-clause-turned : goal.returns-in_default-clause-turned
returns-in_default-clause-turned g c = λ before whole under.
    turn_done before whole _ _ _ _ c.args.pending.now c.in_default.ensures.least c.in_ok-flush.ensures.flushes.0 under

pub returns-in_err-flush-clause-turned : goal.returns-in_err-flush-clause-turned
returns-in_err-flush-clause-turned g c = λ before whole under.
    turned_write before whole _ c.from_residual.result c.from_residual.ensures.1 (done_stopped before whole _ _ _ _ c.args.pending.now c.in_err-flush.ensures.flushes under)

pub returns-in-Ok-Item-clause-same : goal.returns-in-Ok-Item-clause-same
returns-in-Ok-Item-clause-same g c =
    let f = seen g.F.File g.L.LineFormat.text in
    let lt = slot_of f c.args.sources.now c.args.nexts.now c.in-Some.j c.in-Some.ensures.inside c.requires.slots in
    same_taken (map f c.args.sources.now) c.in-Some.j lt _ _ _ _ c.in-Ok-Item.ensures.taken

pub returns-in-Ok-Item-clause-readied : goal.returns-in-Ok-Item-clause-readied
returns-in-Ok-Item-clause-readied g c =
    let f = seen g.F.File g.L.LineFormat.text in
    let lt = slot_of f c.args.sources.now c.args.nexts.now c.in-Some.j c.in-Some.ensures.inside c.requires.slots in
    let taken = taken_as (map f c.args.sources.now) c.in-Some.j lt _ _ _ _ _ (ap Ok c.in-Ok-Item.field-0-is) c.in-Ok-Item.ensures.taken in
    readied_taken (map f c.args.sources.now) c.in-Some.j lt _ _ _ _ c.requires.prepared taken

pub returns-in-Ok-Item-clause-less : goal.returns-in-Ok-Item-clause-less
returns-in-Ok-Item-clause-less g c =
    let f = seen g.F.File g.L.LineFormat.text in
    let lt = slot_of f c.args.sources.now c.args.nexts.now c.in-Some.j c.in-Some.ensures.inside c.requires.slots in
    let taken = taken_as (map f c.args.sources.now) c.in-Some.j lt _ _ _ _ _ (ap Ok c.in-Ok-Item.field-0-is) c.in-Ok-Item.ensures.taken in
    less_taken (map f c.args.sources.now) c.in-Some.j lt _ _ _ _ taken

pub returns-in-Ok-Item-clause-turned : goal.returns-in-Ok-Item-clause-turned
returns-in-Ok-Item-clause-turned g c = λ before whole under.
    let f = seen g.F.File g.L.LineFormat.text in
    let lt = slot_of f c.args.sources.now c.args.nexts.now c.in-Some.j c.in-Some.ensures.inside c.requires.slots in
    let taken = taken_as (map f c.args.sources.now) c.in-Some.j lt _ _ _ _ _ (ap Ok c.in-Ok-Item.field-0-is) c.in-Ok-Item.ensures.taken in
    subst (λ (keys : List SlotKey). IsUnderway before whole (state_of (map f c.take_from.new.sources) keys (g.O.Sink.written c.take_from.new.out) c.take_from.new.pending)) (sym c.set.ensures)
    (turn_item before whole (map f c.args.sources.now) c.args.nexts.now c.in-Some.j lt _ _ _ c.in-Some.ensures.least.0 _ c.in-Some.ensures.least.1 taken under)

pub returns-in_ok-flush-in-Ok-Cut-clause-same : goal.returns-in_ok-flush-in-Ok-Cut-clause-same
returns-in_ok-flush-in-Ok-Cut-clause-same g c =
    let f = seen g.F.File g.L.LineFormat.text in
    let lt = slot_of f c.args.sources.now c.args.nexts.now c.in-Some.j c.in-Some.ensures.inside c.requires.slots in
    same_taken (map f c.args.sources.now) c.in-Some.j lt _ _ _ _ c.in-Ok-Cut.ensures.taken

pub returns-in_ok-flush-in-Ok-Cut-clause-turned : goal.returns-in_ok-flush-in-Ok-Cut-clause-turned
returns-in_ok-flush-in-Ok-Cut-clause-turned g c = λ before whole under.
    let f = seen g.F.File g.L.LineFormat.text in
    let lt = slot_of f c.args.sources.now c.args.nexts.now c.in-Some.j c.in-Some.ensures.inside c.requires.slots in
    let taken = taken_as (map f c.args.sources.now) c.in-Some.j lt _ _ _ _ _ (ap Ok c.in-Ok-Cut.field-0-is) c.in-Ok-Cut.ensures.taken in
    turn_cut before whole (map f c.args.sources.now) c.args.nexts.now c.in-Some.j lt _ _ _ c.in-Some.ensures.least.0 c.in-Ok-Cut.cut _ c.in-Some.ensures.least.1 taken
    c.in_ok-flush-in-Ok-Cut.ensures.flushes.0 under

pub returns-in_err-flush-in-Ok-Cut-clause-same : goal.returns-in_err-flush-in-Ok-Cut-clause-same
returns-in_err-flush-in-Ok-Cut-clause-same g c =
    let f = seen g.F.File g.L.LineFormat.text in
    let lt = slot_of f c.args.sources.now c.args.nexts.now c.in-Some.j c.in-Some.ensures.inside c.requires.slots in
    same_taken (map f c.args.sources.now) c.in-Some.j lt _ _ _ _ c.in-Ok-Cut.ensures.taken

pub returns-in_err-flush-in-Ok-Cut-clause-turned : goal.returns-in_err-flush-in-Ok-Cut-clause-turned
returns-in_err-flush-in-Ok-Cut-clause-turned g c = λ before whole under.
    let f = seen g.F.File g.L.LineFormat.text in
    let lt = slot_of f c.args.sources.now c.args.nexts.now c.in-Some.j c.in-Some.ensures.inside c.requires.slots in
    let taken = taken_as (map f c.args.sources.now) c.in-Some.j lt _ _ _ _ _ (ap Ok c.in-Ok-Cut.field-0-is) c.in-Ok-Cut.ensures.taken in
    turned_write before whole _ c.from_residual-in_err-flush-in-Ok-Cut.result c.from_residual-in_err-flush-in-Ok-Cut.ensures.1
    (cut_stopped before whole (map f c.args.sources.now) c.args.nexts.now c.in-Some.j lt _ _ _ c.in-Ok-Cut.cut _ taken c.in_err-flush-in-Ok-Cut.ensures.flushes under)

pub returns-in_ok-flush-in-Ok-Done-clause-same : goal.returns-in_ok-flush-in-Ok-Done-clause-same
returns-in_ok-flush-in-Ok-Done-clause-same g c =
    let f = seen g.F.File g.L.LineFormat.text in
    let lt = slot_of f c.args.sources.now c.args.nexts.now c.in-Some.j c.in-Some.ensures.inside c.requires.slots in
    same_taken (map f c.args.sources.now) c.in-Some.j lt _ _ _ _ c.in-Ok-Done.ensures.taken

pub returns-in_ok-flush-in-Ok-Done-clause-turned : goal.returns-in_ok-flush-in-Ok-Done-clause-turned
returns-in_ok-flush-in-Ok-Done-clause-turned g c = λ before whole under.
    let f = seen g.F.File g.L.LineFormat.text in
    let lt = slot_of f c.args.sources.now c.args.nexts.now c.in-Some.j c.in-Some.ensures.inside c.requires.slots in
    let taken = taken_as (map f c.args.sources.now) c.in-Some.j lt _ _ _ _ _ (ap Ok c.in-Ok-Done.field-0-is) c.in-Ok-Done.ensures.taken in
    absurd (turn_nothing before whole (map f c.args.sources.now) c.args.nexts.now c.in-Some.j lt _ _ _ c.in-Some.ensures.least.0 c.in-Some.ensures.least.1 taken under)

pub returns-in_err-flush-in-Ok-Done-clause-same : goal.returns-in_err-flush-in-Ok-Done-clause-same
returns-in_err-flush-in-Ok-Done-clause-same g c =
    let f = seen g.F.File g.L.LineFormat.text in
    let lt = slot_of f c.args.sources.now c.args.nexts.now c.in-Some.j c.in-Some.ensures.inside c.requires.slots in
    same_taken (map f c.args.sources.now) c.in-Some.j lt _ _ _ _ c.in-Ok-Done.ensures.taken

pub returns-in_err-flush-in-Ok-Done-clause-turned : goal.returns-in_err-flush-in-Ok-Done-clause-turned
returns-in_err-flush-in-Ok-Done-clause-turned g c = λ before whole under.
    let f = seen g.F.File g.L.LineFormat.text in
    let lt = slot_of f c.args.sources.now c.args.nexts.now c.in-Some.j c.in-Some.ensures.inside c.requires.slots in
    let taken = taken_as (map f c.args.sources.now) c.in-Some.j lt _ _ _ _ _ (ap Ok c.in-Ok-Done.field-0-is) c.in-Ok-Done.ensures.taken in
    absurd (turn_nothing before whole (map f c.args.sources.now) c.args.nexts.now c.in-Some.j lt _ _ _ c.in-Some.ensures.least.0 c.in-Some.ensures.least.1 taken under)

pub returns-in_ok-flush-in-Err-Read-clause-same : goal.returns-in_ok-flush-in-Err-Read-clause-same
returns-in_ok-flush-in-Err-Read-clause-same g c =
    let f = seen g.F.File g.L.LineFormat.text in
    let lt = slot_of f c.args.sources.now c.args.nexts.now c.in-Some.j c.in-Some.ensures.inside c.requires.slots in
    same_taken (map f c.args.sources.now) c.in-Some.j lt _ _ _ _ c.in-Err-Read.ensures.taken

pub returns-in_ok-flush-in-Err-Read-clause-turned : goal.returns-in_ok-flush-in-Err-Read-clause-turned
returns-in_ok-flush-in-Err-Read-clause-turned g c = λ before whole under.
    let f = seen g.F.File g.L.LineFormat.text in
    let lt = slot_of f c.args.sources.now c.args.nexts.now c.in-Some.j c.in-Some.ensures.inside c.requires.slots in
    let taken = taken_as (map f c.args.sources.now) c.in-Some.j lt _ _ _ _ _ (ap Err c.in-Err-Read.field-0-is) c.in-Err-Read.ensures.taken in
    turn_read before whole (map f c.args.sources.now) c.args.nexts.now c.in-Some.j lt _ _ _ c.in-Some.ensures.least.0 _ c.in-Some.ensures.least.1 taken
    c.in_ok-flush-in-Err-Read.ensures.flushes.0 under

pub returns-in_err-flush-in-Err-Read-clause-same : goal.returns-in_err-flush-in-Err-Read-clause-same
returns-in_err-flush-in-Err-Read-clause-same g c =
    let f = seen g.F.File g.L.LineFormat.text in
    let lt = slot_of f c.args.sources.now c.args.nexts.now c.in-Some.j c.in-Some.ensures.inside c.requires.slots in
    same_taken (map f c.args.sources.now) c.in-Some.j lt _ _ _ _ c.in-Err-Read.ensures.taken

pub returns-in_err-flush-in-Err-Read-clause-turned : goal.returns-in_err-flush-in-Err-Read-clause-turned
returns-in_err-flush-in-Err-Read-clause-turned g c = λ before whole under.
    let f = seen g.F.File g.L.LineFormat.text in
    let lt = slot_of f c.args.sources.now c.args.nexts.now c.in-Some.j c.in-Some.ensures.inside c.requires.slots in
    let taken = taken_as (map f c.args.sources.now) c.in-Some.j lt _ _ _ _ _ (ap Err c.in-Err-Read.field-0-is) c.in-Err-Read.ensures.taken in
    turned_write before whole _ c.from_residual-in_err-flush-in-Err-Read.result c.from_residual-in_err-flush-in-Err-Read.ensures.1
    (read_stopped before whole (map f c.args.sources.now) c.args.nexts.now c.in-Some.j lt _ _ _ c.in-Some.ensures.least.0 _ c.in-Some.ensures.least.1 taken c.in_err-flush-in-Err-Read.ensures.flushes under)

pub returns-in-Err-Write-clause-same : goal.returns-in-Err-Write-clause-same
returns-in-Err-Write-clause-same g c =
    let f = seen g.F.File g.L.LineFormat.text in
    let lt = slot_of f c.args.sources.now c.args.nexts.now c.in-Some.j c.in-Some.ensures.inside c.requires.slots in
    same_taken (map f c.args.sources.now) c.in-Some.j lt _ _ _ _ c.in-Err-Write.ensures.taken

pub returns-in-Err-Write-clause-turned : goal.returns-in-Err-Write-clause-turned
returns-in-Err-Write-clause-turned g c = λ before whole under.
    let f = seen g.F.File g.L.LineFormat.text in
    let lt = slot_of f c.args.sources.now c.args.nexts.now c.in-Some.j c.in-Some.ensures.inside c.requires.slots in
    let taken = taken_as (map f c.args.sources.now) c.in-Some.j lt _ _ _ _ _ (ap Err c.in-Err-Write.field-0-is) c.in-Err-Write.ensures.taken in
    turn_stopped before whole (map f c.args.sources.now) c.args.nexts.now c.in-Some.j lt _ _ _ c.in-Some.ensures.least.0 c.in-Some.ensures.least.1 taken under
