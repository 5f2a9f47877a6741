use Rattle.std.proofs.Common.{ℕ, List, map, ap, sym, ◌∙◌}
use Rattle.std.specs.Prelude.{codes}
use Rattle.trace_base.specs.Digits.{two_digits}
use Rattle.trace_base.specs.Kept.{held_of, put_held}
use Rattle.trace_base.specs.TailView.{held, kept}
use Rattle.trace_base.proofs.TailJoins.{held_put}
use Rattle.fmt_eval.specs.Pieces.{join}
use Rattle.fmt_eval.specs.Values.{given}
use Rattle.fmt_print.specs.Flows.{flow_text}
use Rattle.fmt_print.specs.declared.flow.Flow.{Flow}
use Rattle.fmt_print.proofs.flow.put_flow.Goals as goal

pub returns-in-Mac-clause-value : goal.returns-in-Mac-clause-value
returns-in-Mac-clause-value c =
    let into = c.args.into.now in
    ap held_of c.put_octets.ensures.value
    ∙ held_put (kept into) (join (codes ":") (map two_digits c.six_bytes.result))
    ∙ ap (λ (bytes : List ℕ). put_held (held into) (join (codes ":") (map two_digits bytes))) c.six_bytes.ensures
    ∙ ap (λ (flow : Flow). put_held (held into) (flow_text (given c.args.rec.now) flow)) (sym c.in-Mac.is)
