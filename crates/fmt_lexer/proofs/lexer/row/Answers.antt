use Rattle.std.proofs.Common.{sym, ap, ◌∙◌, arith}
use Rattle.fmt_lexer.proofs.Rows.{rest_of}
use Rattle.fmt_lexer.proofs.Loop.{with_front, over_blank, no_token, over_token, all_read}
use Rattle.fmt_lexer.proofs.lexer.row.Goals as goal

pub loop-at-preserved-then-is_blank : goal.loop-at-preserved-then-is_blank
loop-at-preserved-then-is_blank c =
    let lt = c.loop-at-test.true in
    (over_blank c.loop-at.tokens.items c.args.text.now c.loop-at.at _ lt (sym c.if-is_blank.ensures) c.loop-at.invariant.0, omega arith)

pub returns-in_default : goal.returns-in_default
returns-in_default c = no_token c.loop-at.tokens.items c.args.text.now c.loop-at.at _ c.loop-at-test.true (sym c.if-is_blank.ensures) c.in_default.ensures.value c.loop-at.invariant.0

pub loop-at-preserved : goal.loop-at-preserved
loop-at-preserved c =
    let next = over_token c.loop-at.tokens.items c.args.text.now c.loop-at.at c.in-Some.token _ c.loop-at-test.true (sym c.if-is_blank.ensures) c.in-Some.ensures.value c.loop-at.invariant.0 in
    (ap (λ front. with_front front (rest_of c.args.text.now c.in-Some.token.end)) c.in_ok-push.ensures.items ∙ next, c.in-Some.ensures.inside.1)

pub returns : goal.returns
returns c = all_read c.loop-at.tokens.items c.args.text.now c.loop-at.at _ c.loop-at-test.false c.loop-at.invariant.0
