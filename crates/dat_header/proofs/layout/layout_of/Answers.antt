use Rattle.std.proofs.Common.{◌∙◌, sym, arith}
use Rattle.dat_header.proofs.Headers.{page_is}
use Rattle.dat_header.proofs.Layouts.{layout_found, plain_found}
use Rattle.dat_header.proofs.layout.layout_of.Goals as goal

pub returns : goal.returns
returns c = c.layout_by.ensures ∙ layout_found _ _ _ c.args.text.now _ _ _ (sym c.is_empty.ensures ∙ c.if-is_empty.false) c.in_ok-time.ensures c.in_ok-commit.ensures c.in_ok-content.ensures

pub returns-then-is_empty : goal.returns-then-is_empty
returns-then-is_empty c = plain_found _ _ _ c.args.text.now _ (sym c.is_empty.ensures ∙ c.if-is_empty.true) c.plain.ensures

pub plain-requires-clause-page_least : goal.plain-requires-clause-page_least
plain-requires-clause-page_least c = (page_is _ c.requires.page).0

pub plain-requires-clause-page_most : goal.plain-requires-clause-page_most
plain-requires-clause-page_most c = let most = (page_is _ c.requires.page).1 in omega (arith, most)
