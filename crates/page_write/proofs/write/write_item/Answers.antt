use Rattle.std.proofs.Common.{subst, ◌∙◌, sym, ap, ◌≡◌, List, ℕ, [], ◌∷◌, ◌++◌, true}
use Rattle.subpage.specs.ItemData.{ItemData}
use Rattle.subpage.specs.ItemView.{item_view}
use Rattle.trace_outside.specs.Writing.{Gained, GainedPrefix}
use Rattle.trace_outside.proofs.Gains.{on_err}
use Rattle.page_write.specs.PageBytes.{page_of, one_page}
use Rattle.page_write.specs.Passes.{HasPages}
use Rattle.page_write.proofs.Steps.{has_added, has_full, failed_full, goes_in}
use Rattle.page_write.proofs.write.write_item.Goals as goal

pub returns-in_err-write_all-in-Full-clause-stops : goal.returns-in_err-write_all-in-Full-clause-stops
returns-in_err-write_all-in-Full-clause-stops g c = on_err c.from_residual.result (λ before xs ys h.
    let l = c.args.packer.now.layout in
    let held = c.args.packer.now.held in
    let page_is : c.close.result.now ≡ page_of l held = c.close.ensures.page ∙ ap (λ m. page_of m c.add.new.self.held) c.add.ensures.layout ∙ ap (page_of l) c.in-Full.ensures.adds.1 in
    let prefix = subst (λ (t : List ℕ). GainedPrefix (g.O.Sink.written c.args.out.now) (g.O.Sink.written c.write_all.new.out) t) page_is c.in_err-write_all-in-Full.ensures.prefix in
    failed_full l before _ _ xs ys held (item_view c.args.item.now) c.requires.packable.alone c.in-Full.ensures.adds.0 prefix h)

pub returns-in-Added-clause-goes_on : goal.returns-in-Added-clause-goes_on
returns-in-Added-clause-goes_on g c =
    λ before xs h. rw c.in-Added.ensures.adds.1 (has_added c.args.packer.now.layout before _ xs c.args.packer.now.held (item_view c.args.item.now) c.in-Added.ensures.adds.0 h)

pub returns-in_ok-write_all-in-Full-clause-goes_on : goal.returns-in_ok-write_all-in-Full-clause-goes_on
returns-in_ok-write_all-in-Full-clause-goes_on g c = λ before xs h.
    let l = c.args.packer.now.layout in
    let held = c.args.packer.now.held in
    let x = item_view c.args.item.now in
    let page_is : c.close.result.now ≡ page_of l held = c.close.ensures.page ∙ ap (λ m. page_of m c.add.new.self.held) c.add.ensures.layout ∙ ap (page_of l) c.in-Full.ensures.adds.1 in
    let gained = subst (λ (t : List ℕ). Gained (g.O.Sink.written c.args.out.now) (g.O.Sink.written c.write_all.new.out) t) page_is c.in_ok-write_all-in-Full.ensures.gained in
    let same : c.restart.new.self.layout ≡ l = c.restart.ensures.layout ∙ c.close.follows.holds-at-none.0 ∙ c.add.ensures.layout in
    let alone = subst (λ m. one_page m (x ∷ []) ≡ true) (sym same) c.requires.packable.alone in
    let now : c.add-in-Full.new.self.held ≡ x ∷ [] = goes_in c.restart.new.self.layout c.restart.new.self.held c.add-in-Full.new.self.held x c.add-in-Full.result c.restart.ensures.empty alone c.add-in-Full.ensures.adds in
    subst (λ (ys : List ItemData). HasPages l before (g.O.Sink.written c.write_all.new.out) (xs ++ x ∷ []) ys) (sym now)
    (has_full l before (g.O.Sink.written c.args.out.now) (g.O.Sink.written c.write_all.new.out) xs held x c.requires.packable.alone c.in-Full.ensures.adds.0 gained h)

pub returns-in_ok-write_all-in-Full-clause-holds : goal.returns-in_ok-write_all-in-Full-clause-holds
returns-in_ok-write_all-in-Full-clause-holds g c = λ none.
    let x = item_view c.args.item.now in
    let same : c.restart.new.self.layout ≡ c.args.packer.now.layout = c.restart.ensures.layout ∙ c.close.follows.holds-at-none.0 ∙ c.add.ensures.layout in
    let alone = subst (λ m. one_page m (x ∷ []) ≡ true) (sym same) c.requires.packable.alone in
    let now : c.add-in-Full.new.self.held ≡ x ∷ [] = goes_in c.restart.new.self.layout c.restart.new.self.held c.add-in-Full.new.self.held x c.add-in-Full.result c.restart.ensures.empty alone c.add-in-Full.ensures.adds in
    absurd cc
