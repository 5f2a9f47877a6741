use Rattle.std.proofs.Common.{ℕ, ◌≤◌, List, length, drop, sym, subst}
use Rattle.filter_lang.specs.TokenView.{plain_tokens}
use Rattle.filter_lang.specs.Grammar.{IsFilter, RefusedBefore}
use Rattle.filter_lang.specs.Texts.{RefusedText}
use Rattle.filter_lang.specs.FilterView.{filter_of, Stands}
use Rattle.filter_lang.specs.declared.parse_fault.ParseFault.{ParseFault}
use Rattle.filter_lang.specs.declared.token.Token.{Token}
use Rattle.filter_lang.proofs.LexedPlaces.{all_filter, fault_behind, refused_at, place_within}
use Rattle.filter_lang.proofs.parser.parse_filter.Goals as goal

pub returns-then-lexed-text-clause-refused : goal.returns-then-lexed-text-clause-refused
returns-then-lexed-text-clause-refused c =
    let l = c.in_ok-lexed.lexed in
    let is = subst (λ (ts : List Token). IsFilter (plain_tokens ts) (filter_of c.in-Ok.filter)) c.deref.ensures.value c.in-Ok.ensures in
    fault_behind c.args.text.now l.end l.tokens.items (filter_of c.in-Ok.filter) c.in_ok-lexed.ensures.lexes c.if-lexed-text.true is

pub returns-in-Ok-clause-found : goal.returns-in-Ok-clause-found
returns-in-Ok-clause-found c =
    let l = c.in_ok-lexed.lexed in
    let is = subst (λ (ts : List Token). IsFilter (plain_tokens ts) (filter_of c.in-Ok.filter)) c.deref.ensures.value c.in-Ok.ensures in
    all_filter c.args.text.now l.end l.tokens.items (filter_of c.in-Ok.filter) c.in_ok-lexed.ensures.lexes c.if-lexed-text.false is

pub returns-in-Err-Before-clause-refused : goal.returns-in-Err-Before-clause-refused
returns-in-Err-Before-clause-refused c =
    let l = c.in_ok-lexed.lexed in
    let at = c.in-Err-Before.at in
    let stands = subst (λ (e : ParseFault). Stands c.deref.result.now e) c.in-Err-Before.field-0-is c.in-Err-Before.ensures in
    let r = subst (λ (ts : List Token). RefusedBefore (plain_tokens ts) (drop at (plain_tokens ts))) c.deref.ensures.value stands in
    subst (λ (k : ℕ). RefusedText c.args.text.now (drop k c.args.text.now)) (sym c.place.ensures) (refused_at c.args.text.now l.end l.tokens.items at c.in_ok-lexed.ensures.lexes r)

pub returns-in-Err-Before-clause-within : goal.returns-in-Err-Before-clause-within
returns-in-Err-Before-clause-within c =
    let l = c.in_ok-lexed.lexed in
    subst (λ (k : ℕ). k ≤ length c.args.text.now) (sym c.place.ensures) (place_within c.args.text.now l.end l.tokens.items c.in-Err-Before.at c.in_ok-lexed.ensures.within c.in_ok-lexed.ensures.lexes)
