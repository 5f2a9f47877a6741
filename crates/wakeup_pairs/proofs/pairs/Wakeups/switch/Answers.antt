use Rattle.std.proofs.Common.{sym, ◌∙◌, ap, ◌++◌, ◌∷◌, []}
use Rattle.wakeup_pairs.specs.declared.wakeup_item.Pair.{Pair}
use Rattle.wakeup_pairs.proofs.Maps.{switched_none, switched_some}
use Rattle.wakeup_pairs.proofs.pairs.Wakeups.switch.Goals as goal

pub returns-in_default-clause-seen : goal.returns-in_default-clause-seen
returns-in_default-clause-seen c =
    switched_none c.self.inside.waiting c.self.inside.pairs.items c.args.self.now c.self.view_is c.args.switch
    (sym c.get.ensures.value ∙ sym c.copied.ensures ∙ c.in_default.is)

pub returns-clause-seen : goal.returns-clause-seen
returns-clause-seen c =
    switched_some c.self.inside.waiting c.remove.new.self c.self.inside.pairs.items c.push.new.self.items c.args.self.now c.self.view_is c.args.switch c.in-Some.woken
    (sym c.get.ensures.value ∙ sym c.copied.ensures ∙ c.in-Some.is) c.remove.ensures.updates.0
    (c.in_ok-push.ensures.items ∙ ap (λ (p : Pair). c.self.inside.pairs.items ++ p ∷ []) c.pair_of.ensures)
