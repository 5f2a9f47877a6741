use Rattle.std.proofs.Common.{◌+◌, ◌-◌, ◌%◌, sym, ap, ◌∙◌, arith}
use Rattle.new_files.proofs.Placing.{same_rest, at_page, before_page}
use Rattle.new_files.proofs.padding.gap.Goals as goal

pub returns-then-over-eq0-clause-gap : goal.returns-then-over-eq0-clause-gap
returns-then-over-eq0-clause-gap c = λ whole is.
    let same = sym (same_rest c.args.page c.args.place whole c.requires is) ∙ ap (λ n. c.args.place % n) (sym c.from.ensures) in
    let here = at_page c.args.page whole c.requires (same ∙ c.if-over-eq0.true) in
    omega (arith, here)

pub returns-else-over-eq0-clause-gap : goal.returns-else-over-eq0-clause-gap
returns-else-over-eq0-clause-gap c = λ whole is.
    let same = sym (same_rest c.args.page c.args.place whole c.requires is) ∙ ap (λ n. c.args.place % n) (sym c.from.ensures) in
    before_page c.args.page whole c.requires (λ zero. c.if-over-eq0.false (sym same ∙ zero)) ∙ ap (λ n. whole + (c.args.page - n)) same
