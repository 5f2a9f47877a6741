use Rattle.std.proofs.Common.{ℕ, List, ◌∷◌, map, ap}
use Rattle.line_holes.specs.Holes.{filled_bytes, hole_time}
use Rattle.line_holes.proofs.PlaceLaws.{only_along}
use Rattle.report_context.specs.Lines.{cpus_line}
use Rattle.file_report.specs.Report.{entry_line}
use Rattle.trace_run.proofs.laws.differences_by_places.Goals as goal

pub returns : goal.returns
returns c = λ cpus given items lines are.
    ap (λ (texts : List (List ℕ)). cpus_line cpus ∷ texts) (only_along hole_time filled_bytes (map (entry_line given) items) lines are)
