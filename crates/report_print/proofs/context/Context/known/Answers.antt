use Rattle.std.proofs.Common.{rules, ◌∙◌, ap, map, length, refl, sym}
use Rattle.report_print.specs.HeadView.{head_view}
use Rattle.std.proofs.lemmas.Bool.{ltb-true}
use Rattle.std.proofs.lemmas.Option.{slice_get_read}
use Rattle.report_print.proofs.Heads.{known_is}
use Rattle.report_print.proofs.context.Context.known.Goals as goal

pub returns : goal.returns
returns c =
    let heads = c.deref.result.now in
    let found = c.in_ok-found.found in
    let head = c.in_ok-head.head.now in
    let lookup = c.in_ok-head.ensures.lookup in
    let read = slice_get_read heads (length heads) found.place head refl (ltb-true found.place (length heads) (sym lookup.0)) lookup.1 in
    let known = known_is c.self.inside.show c.self.inside.formats c.args.id heads found.place head found.format.now (ap (map head_view) c.deref.ensures.value ∙ c.self.invariant.1) c.in_ok-found.ensures.place c.in_ok-found.ensures.format (sym read) in
    search (rules, known, c.self.view_is)
