use Rattle.std.proofs.Common.{◌≡◌, ℕ, [], replicate, sym, ap, ◌∙◌, arith}
use Rattle.trace_base.specs.Kept.{held_of, put_held}
use Rattle.trace_base.specs.TailView.{kept, held}
use Rattle.trace_base.proofs.TailJoins.{held_put, put_nothing}
use Rattle.line_fronts.proofs.unnamed.put_spaces.Goals as goal

pub returns-in-0-clause-value : goal.returns-in-0-clause-value
returns-in-0-clause-value c =
    let tail = c.args.into.now in
    let none : 0 ≡ c.args.count = omega (arith, c.in-0.is) in
    ap held_of (sym (put_nothing tail)) ∙ held_put (kept tail) [] ∙ ap (λ (n : ℕ). put_held (held tail) (replicate n 32)) none
