use Rattle.std.proofs.Common.{◌≡◌, [], ◌∷◌, ◌++◌, sym, subst}
use Rattle.subpage.specs.ItemData.{ItemData}
use Rattle.subpage.specs.ItemView.{item_view}
use Rattle.split_passes.specs.Tallies.{IsTally}
use Rattle.split_passes.proofs.Running.{first_is}
use Rattle.split_passes.proofs.rounds.take_head.Goals as goal

pub returns-in-Some : goal.returns-in-Some
returns-in-Some c = record {
  taken =
      let l = c.args.lane.now.layout in
      let s = c.step.ensures.used in
      let item : item_view c.in-Some.item ≡ s.first = (first_is c.args.lane.now c.step.new.lane _ (sym c.in-Some.ensures.head) s).1 in
      record {
        stepped = s;
        tallied = λ ys t. subst (λ (y : ItemData). IsTally l c.add.new.self (ys ++ y ∷ [])) item (c.add.ensures ys t);
      };
}
