use Rattle.std.proofs.Common.{refl, sym, ap, subst, ◌∙◌, ◌+◌, ◌≡◌, length, arith, length-drop}
use Rattle.fmt_directives.specs.Directives.{SpelledTo}
use Rattle.fmt_directives.proofs.Rows.{rest_of, with_front, start, no_directive, over_directive, all_read}
use Rattle.fmt_directives.proofs.Spellings.{spelled_more, no_piece, spelled_within}
use Rattle.fmt_directives.proofs.pieces.directives.Goals as goal

pub loop-at-init : goal.loop-at-init
loop-at-init c = (
  ap (λ front. with_front front (rest_of c.args.text.now 0)) c.new-directives.ensures.items ∙ start c.args.text.now,
  omega arith,
  subst (λ ds. SpelledTo c.args.text.now 0 ds 0) (sym c.new-directives.ensures.items) refl,
)

pub returns-in_default-clause-exact : goal.returns-in_default-clause-exact
returns-in_default-clause-exact c = no_directive c.loop-at.directives.items c.args.text.now c.loop-at.at _ c.loop-at-test.true c.in_default.ensures.value c.loop-at.invariant.0

pub returns-in_default-clause-none : goal.returns-in_default-clause-none
returns-in_default-clause-none c = (c.loop-at.directives.items, c.loop-at.at, c.loop-at.invariant.2, c.loop-at-test.true, λ d n is. no_piece c.loop-at.at _ d n c.in_default.ensures.value is)

pub loop-at-preserved : goal.loop-at-preserved
loop-at-preserved c =
    let here = c.in-Some.ensures.value in
    let within = c.in-Some.ensures.within in
    let next = over_directive c.loop-at.directives.items c.args.text.now c.loop-at.at c.in-Some.directive c.in-Some.len _ c.loop-at-test.true within.0 within.1 here c.loop-at.invariant.0 in (
      ap (λ front. with_front front (rest_of c.args.text.now (c.loop-at.at + c.in-Some.len))) c.in_ok-push.ensures.items ∙ next,
      omega (arith, within.1, length-drop c.loop-at.at c.args.text.now),
      subst (λ ds. SpelledTo c.args.text.now 0 ds (c.loop-at.at + c.in-Some.len)) (sym c.in_ok-push.ensures.items)
          (spelled_more c.args.text.now 0 c.loop-at.directives.items c.loop-at.at c.in-Some.directive c.in-Some.len c.loop-at.invariant.2 here),
    )

pub returns-clause-exact : goal.returns-clause-exact
returns-clause-exact c = all_read c.loop-at.directives.items c.args.text.now c.loop-at.at _ c.loop-at-test.false c.loop-at.invariant.0

pub returns-clause-found : goal.returns-clause-found
returns-clause-found c =
    let end : c.loop-at.at ≡ length c.args.text.now = omega arith in
    subst (SpelledTo c.args.text.now 0 c.loop-at.directives.items) end c.loop-at.invariant.2

pub returns-clause-within : goal.returns-clause-within
returns-clause-within c = spelled_within c.args.text.now 0 c.loop-at.directives.items c.loop-at.at c.loop-at.invariant.2
