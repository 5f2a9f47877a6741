-- The lines of a report: the first one, and one for each item.
-- Source: trace-cmd-report(1).
use Rattle.std.specs.Prelude.{ℕ, List, [], ◌∷◌, codes}
use Rattle.std.specs.Fmt.{decimal}
use Rattle.line_holes.specs.Holes.{LineText, line_text}
use Rattle.subpage.specs.ItemData.{ItemData}
use Rattle.report_print.specs.ContextData.{ContextData}
use Rattle.report_print.specs.Line.{hole, line}
use Rattle.trace_outside.specs.Pieces.{text_of}

-- a report's first line
abbrev pub cpus_line : ℕ → List ℕ
cpus_line cpus = text_of (codes "cpus=" ∷ decimal cpus ∷ codes "\n" ∷ [])

-- the line of an item, with its hole
abbrev pub item_line : ContextData → ℕ → ItemData → LineText
item_line given cpu item = line_text (line given cpu item) (hole given cpu item)
