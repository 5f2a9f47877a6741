use Rattle.std.proofs.Common.{ℕ, List, ap, ◌∙◌}
use Rattle.trace_base.proofs.field.Field.copy.Goals as goal

pub returns : goal.returns
returns c = ap (λ (name : List ℕ). record (c.args.self.now) { name = name }) (c.in_ok-name.ensures ∙ c.as_bytes.ensures)
