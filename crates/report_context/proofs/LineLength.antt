-- No line has more than 65,537 bytes.
use Rattle.std.proofs.Common.{ℕ, ◌≤◌, Bool, true, false, cond, [], length, arith}
use Rattle.subpage.specs.ItemData.{ItemData}
use Rattle.report_print.specs.Ending.{closed}
use Rattle.report_print.specs.ContextData.{ContextData}
use Rattle.report_print.specs.Line.{line, item_text, selected}
use Rattle.report_print.proofs.LineLength.{closed_short}

pub line_short : (given : ContextData) (cpu : ℕ) (item : ItemData) → length (line given cpu item) ≤ 65537
line_short given cpu item = by_choice (selected given cpu item)
  where
    by_choice : (shown : Bool) → length (cond shown (closed (item_text given cpu item)) []) ≤ 65537
    by_choice true = closed_short (item_text given cpu item)
    by_choice false = omega arith
