use Rattle.std.proofs.Common.{ℕ, List, ◌++◌, ap, ◌∙◌}
use Rattle.report_print.proofs.head.with_room.Goals as goal

pub returns : goal.returns
returns c = c.in_ok-extend_from_slice.ensures.items ∙ ap (λ (copy : List ℕ). copy ++ c.args.text.now) c.in_ok-copy.ensures.items
