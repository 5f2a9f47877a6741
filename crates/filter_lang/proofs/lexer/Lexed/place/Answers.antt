use Rattle.std.proofs.Common.{◌≤◌, length, ap, ◌∙◌, rules}
use Rattle.filter_lang.specs.LexedView.{place_in}
use Rattle.filter_lang.proofs.LexedPlaces.{place_there, place_past}
use Rattle.filter_lang.proofs.lexer.Lexed.place.Goals as goal

pub returns-in-Some : goal.returns-in-Some
returns-in-Some c =
    let end = c.args.self.now.end in
    place_there end c.deref.result.now c.args.i c.in-Some.token.now c.in-Some.ensures.lookup.3.0 c.in-Some.ensures.lookup.1 ∙ ap (λ ts. place_in end ts c.args.i) c.deref.ensures.value

pub returns-in-None : goal.returns-in-None
returns-in-None c =
    let end = c.args.self.now.end in
    let past : length c.deref.result.now ≤ c.args.i = search rules in
    place_past end c.deref.result.now c.args.i past ∙ ap (λ ts. place_in end ts c.args.i) c.deref.ensures.value
