use Rattle.std.proofs.Common.{arith}
use Rattle.cpu_workers.proofs.Settling.{settled_behind}
use Rattle.cpu_workers.proofs.workers.format_lanes.Goals as goal

pub returns-clause-settled : goal.returns-clause-settled
returns-clause-settled g c =
    let formatted = c.format_shared.ensures in
    λ k d inside. settled_behind (g.L.LineFormat.text c.args.form.now) _ _ (formatted.each k d (omega (arith, inside, formatted.count)))
