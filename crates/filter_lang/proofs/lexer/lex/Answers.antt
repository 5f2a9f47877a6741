use Rattle.std.proofs.Common.{ℕ, ◌+◌, ◌||◌, refl, false, Bool, List, ◌++◌, sym, subst, arith}
use Rattle.filter_lang.specs.TokenView.{plain_token}
use Rattle.filter_lang.specs.Lexing.{is_colon}
use Rattle.filter_lang.specs.Texts.{AreLexemes}
use Rattle.filter_lang.specs.LexedView.{lexemes_of}
use Rattle.filter_lang.specs.declared.token.Token.{Token}
use Rattle.filter_lang.proofs.Continues.{Continues, over_blank, over_token, no_token_there, all_lexed}
use Rattle.filter_lang.proofs.lexer.lex.Goals as goal

pub loop-at-init : goal.loop-at-init
loop-at-init c =
    let text = c.args.text.now in
    (λ row rest d. subst (λ (ts : List Token). AreLexemes false text (lexemes_of text ts ++ row) rest) (sym c.new-tokens.ensures.items) d, omega arith)

pub loop-at-preserved-then-is_blank : goal.loop-at-preserved-then-is_blank
loop-at-preserved-then-is_blank c =
    let l = c.loop-at in
    (over_blank c.args.text.now l.colon_before l.at l.tokens.items c.loop-at-test.true (sym c.if-is_blank.ensures) l.invariant.0, omega arith)

pub loop-at-preserved : goal.loop-at-preserved
loop-at-preserved c =
    let text = c.args.text.now in
    let l = c.loop-at in
    let t : Token = record { word = c.in-Some.word; start = l.at } in
    let at : ℕ = l.at + (c.in-Some.behind + 1) in
    let next = over_token text l.colon_before l.at c.in-Some.behind l.tokens.items t c.loop-at-test.true (sym c.if-is_blank.ensures) (sym c.in-Some.ensures.value) refl l.invariant.0 in (
      subst (λ (b : Bool). Continues text b at c.push.new.self.items) (sym c.is_past_colon-colon_before.ensures) (subst (λ (ts : List Token). Continues text (l.colon_before || is_colon (plain_token c.in-Some.word)) at ts) (sym c.in_ok-push.ensures.items) next),
      omega (arith, c.in-Some.ensures.within),
    )

pub returns-in_default-clause-lexes : goal.returns-in_default-clause-lexes
returns-in_default-clause-lexes c =
    let l = c.loop-at in
    no_token_there c.args.text.now l.colon_before l.at l.tokens.items c.loop-at-test.true (sym c.if-is_blank.ensures) (sym c.in_default.ensures.value) l.invariant.0

pub returns-clause-lexes : goal.returns-clause-lexes
returns-clause-lexes c =
    let l = c.loop-at in
    all_lexed c.args.text.now l.colon_before l.at l.tokens.items c.loop-at-test.false l.invariant.0
