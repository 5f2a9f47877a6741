use Rattle.std.proofs.Common.{refl, subst, [], sym}
use Rattle.subpage.specs.ItemView.{item_view}
use Rattle.page_write.specs.Fill.{IsFill}
use Rattle.page_write.proofs.Steps.{size_added, size_full, fill_goes_in, none_fill}
use Rattle.page_write.proofs.count.PageCount.add.Goals as goal

pub returns-then-self-eq0-clause-counts : goal.returns-then-self-eq0-clause-counts
returns-then-self-eq0-clause-counts c = λ xs.
    size_added c.args.layout.now c.args.self.now _ xs (item_view c.args.item.now) (λ held is. c.in-Added.ensures.lists held is) (λ _. refl) (λ never. absurd (never c.if-self-eq0.true))

pub returns-else-self-eq0-clause-counts : goal.returns-else-self-eq0-clause-counts
returns-else-self-eq0-clause-counts c = λ xs.
    size_added c.args.layout.now c.args.self.now _ xs (item_view c.args.item.now) (λ held is. c.in-Added.ensures.lists held is) (λ e. absurd (c.if-self-eq0.false e)) (λ _. refl)

pub returns-in-Full-clause-counts : goal.returns-in-Full-clause-counts
returns-in-Full-clause-counts c = λ xs.
    let l = c.args.layout.now in
    let fresh = subst (λ room. IsFill l room []) (sym c.new-self.ensures) (none_fill l) in
    size_full l c.args.self.now _ xs (item_view c.args.item.now) c.requires.packable.alone (λ held is. (c.in-Full.ensures.lists held is).0)
    (fill_goes_in l c.add-in-Full.new.self (item_view c.args.item.now) c.add-in-Full.result c.requires.packable.alone (c.add-in-Full.ensures.lists [] fresh)) refl
