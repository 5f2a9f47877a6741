use Rattle.std.proofs.Common.{length, sym, ap, arith}
use Rattle.subpage.proofs.FewItems.{few_items}
use Rattle.subpage.proofs.page.open_page.Goals as goal

pub returns-clause-few : goal.returns-clause-few
returns-clause-few c =
    let few = few_items c.args.layout.now c.args.bytes.now _ c.requires.whole (sym c.in_ok-first.ensures.exact) in
    omega (arith, few, ap length c.settle.ensures.same)
