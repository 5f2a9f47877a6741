use Rattle.std.proofs.Common.{ℕ, List, ◌++◌, ◌∙◌, ap}
use Rattle.line_fronts.proofs.usual.write_front.Goals as goal

pub returns : goal.returns
returns c = c.put_at.ensures ∙ ap (λ (l : List ℕ). c.args.task.now ++ l) c.write_when.ensures
