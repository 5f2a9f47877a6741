use Rattle.std.proofs.Common.{rules, ◌+◌, ◌<◌, ◌≤◌, [], ◌∷◌, ◌++◌, length, ap, ◌∙◌}
use Rattle.std.specs.List.{enumerate_from}
use Rattle.std.proofs.lemmas.List.{take_all}
use Rattle.trace_base.specs.declared.part.Part.{Part}
use Rattle.split_tests.proofs.LanesInRow.{numbered_on}
use Rattle.split_tests.proofs.tests.splits.numbered.Goals as goal

pub loop-i-preserved : goal.loop-i-preserved
loop-i-preserved c =
    let lt : c.loop-i.i < length c.args.parts.now = search rules in
    numbered_on c.args.first c.loop-i.i c.args.parts.now c.index-parts-i.result c.loop-i.all.items c.push.new.self.items lt c.loop-i.invariant
    (c.in_ok-push.ensures.items ∙ ap (λ (part : Part). c.loop-i.all.items ++ (c.args.first + c.loop-i.i, part) ∷ []) c.index-parts-i.is)

pub returns : goal.returns
returns c =
    let over : length c.args.parts.now ≤ c.loop-i.i = search rules in
    c.loop-i.invariant ∙ ap (enumerate_from c.args.first) (take_all c.loop-i.i c.args.parts.now over)
