use Rattle.std.proofs.Common.{ℕ, Option, sym, ap, ◌∙◌}
use Rattle.std.specs.Option.{option_map}
use Rattle.subpage.specs.declared.item.Item.{Item}
use Rattle.event_cursor.specs.Stepping.{head_view}
use Rattle.time_merge.proofs.Skips.{held_of_first, other_first}
use Rattle.time_merge.proofs.others.holds_other.Goals as goal

pub returns-in-Some-clause-other : goal.returns-in-Some-clause-other
returns-in-Some-clause-other g c = λ yes.
    other_first _ c.args.lane.now _
    (ap (λ (o : Option (ℕ × Item)). option_map (λ head. head_view c.args.lane.now.cpu head) o) (sym c.in-Some.is) ∙ c.head.ensures.head) (c.is_other.ensures yes)

pub returns-in-Some-clause-held : goal.returns-in-Some-clause-held
returns-in-Some-clause-held g c = λ yes.
    (held_of_first c.args.lane.now _
    (sym (ap (λ (o : Option (ℕ × Item)). option_map (λ head. head_view c.args.lane.now.cpu head) o) (sym c.in-Some.is) ∙ c.head.ensures.head))).0

pub returns-in-Some-clause-some : goal.returns-in-Some-clause-some
returns-in-Some-clause-some g c = λ yes.
    (held_of_first c.args.lane.now _
    (sym (ap (λ (o : Option (ℕ × Item)). option_map (λ head. head_view c.args.lane.now.cpu head) o) (sym c.in-Some.is) ∙ c.head.ensures.head))).1
