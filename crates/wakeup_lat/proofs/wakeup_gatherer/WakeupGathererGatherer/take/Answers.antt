use Rattle.std.proofs.lemmas.Result.{on_ok_weaker}
use Rattle.subpage.specs.Arrangement.{Keyed}
use Rattle.subpage.specs.ItemView.{item_view}
use Rattle.item_pass.specs.Gathering.{and_item}
use Rattle.wakeup_lat.specs.Matter.{matters}
use Rattle.wakeup_lat.proofs.Mattering.{and_gathered}
use Rattle.wakeup_lat.proofs.wakeup_gatherer.WakeupGathererGatherer.take.Goals as goal

pub returns-clause-known : goal.returns-clause-known
returns-clause-known c =
    let given = c.args.self.now.context.now in
    let xs = c.requires.known.0 in
    let x : Keyed = record { key = 0; cpu = c.args.cpu; item = item_view c.args.item.now } in
    on_ok_weaker c.see.result (λ is. (and_item (matters given) xs x, and_gathered given xs x c.see-seen.result _ _ c.see-seen.ensures is c.requires.known.1)) c.see.ensures.seen

pub returns-clause-taken : goal.returns-clause-taken
returns-clause-taken c = λ xs key holds.
    let x : Keyed = record { key = key; cpu = c.args.cpu; item = item_view c.args.item.now } in
    on_ok_weaker c.see.result (λ is. and_gathered c.args.self.now.context.now xs x c.see-seen.result _ _ c.see-seen.ensures is holds) c.see.ensures.seen
