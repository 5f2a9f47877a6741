use Rattle.std.proofs.Common.{◌<◌, ℕ, [], ◌∷◌, ◌++◌, length, ap, ◌∙◌, arith}
use Rattle.std.specs.List.{filter}
use Rattle.trace_base.specs.declared.part.Part.{Part}
use Rattle.run_endings.specs.Selection.{has, selection_of}
use Rattle.run_endings.proofs.Printing.{numbered_more}
use Rattle.run_endings.proofs.Chosen.{first_few}
use Rattle.run_endings.proofs.selection.Selection.chosen.Goals as goal

pub loop-part-preserved : goal.loop-part-preserved
loop-part-preserved c =
    let inside : c.loop-part.part-index < length c.args.parts.now = omega arith in
    let takes = λ (numbered : ℕ × Part). has (selection_of c.args.self.now) numbered.0 in
    record {
      place = omega arith;
      chosen = numbered_more takes _ _ _ c.loop-part.cpu c.loop-part.part-index c.args.parts.now c.part-item.result inside
          (c.in_ok-push.ensures ∙ ap (λ (part : Part). c.loop-part.taken.items ++ filter takes ((c.loop-part.cpu, part) ∷ [])) c.part-item.is) c.loop-part.invariant.chosen;
    }

pub returns-clause-few : goal.returns-clause-few
returns-clause-few c =
    first_few (λ part. has (selection_of c.args.self.now) part.0) c.loop-part.taken.items _ 0 1024 c.args.parts.now c.loop-part.invariant.chosen c.requires
