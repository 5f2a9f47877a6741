use Rattle.std.proofs.Common.{◌≡◌, ℕ, ◌+◌, List, drop, Option, Some, None, sym, ap, ◌∙◌}
use Rattle.std.proofs.lemmas.List.{drop-drop}
use Rattle.std.specs.Iterator.{YieldsFirstBy}
use Rattle.subpage.specs.declared.item.Item.{Item}
use Rattle.subpage.specs.ItemData.{ItemData}
use Rattle.subpage.specs.ItemView.{item_view}
use Rattle.subpage.proofs.page.Page.resume.Goals as goal

-- a call of next drops one
drop_one : (r : Option Item) (s t all : List ItemData) (i : ℕ) → YieldsFirstBy item_view (λ x. x) s r t → s ≡ drop i all → t ≡ drop (i + 1) all
drop_one None s t all i y e = y.1 ∙ ap (drop 1) (sym y.0 ∙ e) ∙ drop-drop 1 i all
drop_one (Some x) s t all i y e = ap (drop 1) (sym y ∙ e) ∙ drop-drop 1 i all

pub loop-preserved : goal.loop-preserved
loop-preserved c = drop_one c.next.result _ _ c.args.self.now c.loop.counter c.next.ensures.steps c.loop.invariant
