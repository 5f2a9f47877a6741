use Rattle.std.proofs.Common.{◌∙◌, subst}
use Rattle.std.specs.Int.{w32}
use Rattle.std.proofs.lemmas.Int.{to_z-of_z}
use Rattle.trace_base.specs.TailView.{held}
use Rattle.line_fronts.specs.declared.show.Show.{Show}
use Rattle.line_fronts.specs.When.{IsUsual}
use Rattle.report_print.proofs.FrontLemmas.{usual_put, usual_room, usual_end}
use Rattle.report_print.proofs.fronts.put_front.Goals as goal

pub put_usual-len-requires-clause-usual : goal.put_usual-len-requires-clause-usual
put_usual-len-requires-clause-usual c = subst (λ (show : Show). IsUsual show c.args.cpu c.args.time) c.show.ensures (c.are_usual.ensures c.if-are_usual.true)

pub put_unusual-requires : goal.put_unusual-requires
put_unusual-requires c = to_z-of_z w32 c.args.pid c.ranges.pid ∙ c.requires

pub overflow_sub-result : goal.overflow_sub-result
overflow_sub-result c =
    let usual = subst (λ (show : Show). IsUsual show c.args.cpu c.args.time) c.show.ensures (c.are_usual.ensures c.if-are_usual.true) in
    usual_room c.args.context.now c.args.cpu c.args.time c.args.payload.now c.args.behind.now _ usual (to_z-of_z w32 c.args.pid c.ranges.pid ∙ c.requires)
    c.put_usual-len.result c.put_usual-len.ensures.len

pub returns-then-are_usual-clause-value : goal.returns-then-are_usual-clause-value
returns-then-are_usual-clause-value c =
    let usual = subst (λ (show : Show). IsUsual show c.args.cpu c.args.time) c.show.ensures (c.are_usual.ensures c.if-are_usual.true) in
    c.put_usual-len.ensures.value
    ∙ usual_put c.args.context.now c.args.cpu c.args.time c.args.payload.now c.args.behind.now _ usual (to_z-of_z w32 c.args.pid c.ranges.pid ∙ c.requires) (held c.args.into.now)

pub returns-then-are_usual-clause-until : goal.returns-then-are_usual-clause-until
returns-then-are_usual-clause-until c =
    let usual = subst (λ (show : Show). IsUsual show c.args.cpu c.args.time) c.show.ensures (c.are_usual.ensures c.if-are_usual.true) in
    usual_end c.args.context.now c.args.cpu c.args.time c.args.payload.now c.args.behind.now _ usual (to_z-of_z w32 c.args.pid c.ranges.pid ∙ c.requires)
    c.put_usual-len.result c.put_usual-len.ensures.len
