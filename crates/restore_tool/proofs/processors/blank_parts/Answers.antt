use Rattle.std.proofs.Common.{refl, replicate, ap, ◌∙◌}
use Rattle.std.proofs.lemmas.Result.{IfOk-weaker}
use Rattle.trace_base.specs.Parts.{part_of}
use Rattle.trace_base.proofs.PartNumbers.{same_part}
use Rattle.restore_tool.proofs.processors.blank_parts.Goals as goal

pub returns : goal.returns
unfolding part_of
returns c = IfOk-weaker c.vec.result _ _ (λ parts filled. filled (λ part is. is) ∙ ap (replicate c.args.cpus) (same_part _ (part_of 0 0) refl refl)) c.vec.ensures.items_if_clones_equal
