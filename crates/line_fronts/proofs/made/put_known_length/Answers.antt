use Rattle.std.proofs.Common.{◌∙◌, ap, arith}
use Rattle.std.proofs.lemmas.List.{length-take, take_all}
use Rattle.trace_base.specs.Kept.{put_held}
use Rattle.trace_base.specs.TailView.{held}
use Rattle.line_fronts.proofs.made.put_known_length.Goals as goal

pub slice_bounds-put-end : goal.slice_bounds-put-end
slice_bounds-put-end c = omega (arith, c.in-23.is, length-take 23 c.args.task.now)

pub slice_bounds-put-end-in-24 : goal.slice_bounds-put-end-in-24
slice_bounds-put-end-in-24 c = omega (arith, c.in-24.is, length-take 24 c.args.task.now)

pub returns-in-23-clause-value : goal.returns-in-23-clause-value
returns-in-23-clause-value c =
    c.put.ensures.held ∙ ap (put_held (held c.args.into.now)) (take_all 23 c.args.task.now (omega (arith, c.in-23.is)))

pub returns-in-24-clause-value : goal.returns-in-24-clause-value
returns-in-24-clause-value c =
    c.put-in-24.ensures.held ∙ ap (put_held (held c.args.into.now)) (take_all 24 c.args.task.now (omega (arith, c.in-24.is)))
