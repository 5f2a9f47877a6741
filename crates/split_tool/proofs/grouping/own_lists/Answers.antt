use Rattle.std.proofs.Common.{rules, ◌<◌, ℕ, [], ◌∷◌, length, ap, ◌∙◌}
use Rattle.trace_base.specs.declared.part.Part.{Part}
use Rattle.time_merge.proofs.UnusedLanes.{unused_fresh}
use Rattle.split_tool.proofs.NewLists.{own_on}
use Rattle.split_tool.proofs.grouping.own_lists.Goals as goal

pub loop-i-preserved : goal.loop-i-preserved
loop-i-preserved c =
    let lt : c.loop-i.i < length c.args.parts.now = search rules in
    let made = c.in_ok-new.ensures in
    own_on c.args.layout.now c.args.parts.now c.loop-i.i c.loop-i.lists.items c.push.new.self.items c.in_ok-new.field-0 c.index-parts-i.result lt c.in_ok-push.ensures.items c.loop-i.invariant made.layout
    (made.parts ∙ ap (λ (part : ℕ × Part). part ∷ []) c.index-parts-i.is) (unused_fresh _ _ _ made.unused)
