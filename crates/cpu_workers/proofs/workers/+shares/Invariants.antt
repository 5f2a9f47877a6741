use Rattle.std.proofs.Common.{◌+◌, ◌-◌, ◌*◌}
use Rattle.cpu_workers.proofs.workers.+shares.Given as goal

abbrev pub decreases-format_halves-begun : goal.decreases-format_halves-begun
decreases-format_halves-begun g l = 4 * l.first + 1

abbrev pub decreases-format_halves-here : goal.decreases-format_halves-here
decreases-format_halves-here g l = 4 * l.others + 1

abbrev pub decreases-format_halves : goal.decreases-format_halves
decreases-format_halves g l = 4 * l.count - 1

abbrev pub decreases-format_shared : goal.decreases-format_shared
decreases-format_shared g l = 4 * l.count
