use Rattle.std.proofs.Common.{List, subst, sym}
use Rattle.std.specs.Prelude.{true}
use Rattle.std.proofs.lemmas.Result.{on_ok_weaker}
use Rattle.subpage.specs.Arrangement.{Keyed}
use Rattle.subpage.specs.ItemView.{item_view}
use Rattle.item_pass.specs.Gathering.{and_item}
use Rattle.call_pairs.specs.declared.graph_item.GraphItem.{GraphItem}
use Rattle.graph_report.specs.Gathered.{HasSeen, seen_in}
use Rattle.graph_report.proofs.Taken.{one_more}
use Rattle.graph_report.proofs.call_gatherer.CallGathererGatherer.take.Goals as goal

pub note_item-requires-clause-known : goal.note_item-requires-clause-known
note_item-requires-clause-known c = (_, c.requires.known.1)

pub returns-clause-known : goal.returns-clause-known
returns-clause-known c =
    let given = c.args.self.now.context.now in
    let xs = c.requires.known.0 in
    let x : Keyed = record { key = 0; cpu = c.args.cpu; item = item_view c.args.item.now } in
    on_ok_weaker c.note_item.result
    (λ has. (and_item (λ _ _. true) xs x, subst (λ (seen : List GraphItem). HasSeen seen c.note_item.new.tracing) (sym (one_more given xs x)) has))
    (c.note_item.ensures.noted (seen_in given xs) c.requires.known.1)

pub returns-clause-taken : goal.returns-clause-taken
returns-clause-taken c = λ xs key holds.
    let given = c.args.self.now.context.now in
    let x : Keyed = record { key = key; cpu = c.args.cpu; item = item_view c.args.item.now } in
    on_ok_weaker c.note_item.result
    (λ has. subst (λ (seen : List GraphItem). HasSeen seen c.note_item.new.tracing) (sym (one_more given xs x)) has)
    (c.note_item.ensures.noted (seen_in given xs) holds)
