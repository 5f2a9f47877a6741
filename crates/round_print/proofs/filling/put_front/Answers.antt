use Rattle.std.proofs.Common.{ℕ, List, take, subst, ◌∙◌, rules}
use Rattle.trace_outside.specs.Pending.{PutsText, on_way}
use Rattle.round_print.proofs.FilledTexts.{if_ok, plain_text, plain_last}
use Rattle.round_print.proofs.filling.put_front.Goals as goal

pub returns-then-count-gt1-clause-puts : goal.returns-then-count-gt1-clause-puts
returns-then-count-gt1-clause-puts g c =
    let lane = c.args.lane.now in
    let P : List ℕ → Type 0 = λ text.
    PutsText text (on_way g.O.Sink.written g.O.Sink.name g.O.Sink.faults c.args.out.now c.args.pending.now) (on_way g.O.Sink.written g.O.Sink.name g.O.Sink.faults c.put.new.out c.put.new.self) c.put.result in
    subst P (c.front_text.ensures ∙ plain_text lane.cpu c.args.last.now (take c.args.count lane.region.kept) (c.requires.plain (search rules) c.if-count-gt1.true)) c.put.ensures

pub returns-then-count-gt1-clause-last : goal.returns-then-count-gt1-clause-last
returns-then-count-gt1-clause-last g c =
    let lane = c.args.lane.now in
    if_ok c.put.result (plain_last lane.cpu c.args.last.now (take c.args.count lane.region.kept) (c.requires.plain (search rules) c.if-count-gt1.true))
