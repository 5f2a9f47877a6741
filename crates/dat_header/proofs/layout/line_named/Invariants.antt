use Rattle.std.proofs.Common.{◌≡◌}
use Rattle.std.specs.List.{filter_map}
use Rattle.trace_base.specs.FieldReading.{field_line}
use Rattle.dat_header.specs.PageText.{field_lines, line_named}
use Rattle.text_lines.specs.Lines.{lines_left}
use Rattle.dat_header.proofs.Layouts.{lines_long}
use Rattle.dat_header.proofs.layout.line_named.Given as goal

abbrev pub invariant-loop-left : goal.invariant-loop-left
invariant-loop-left l = line_named l.name (filter_map field_line (lines_left l.left)) ≡ line_named l.name (field_lines l.text)

abbrev pub decreases-loop-left : goal.decreases-loop-left
decreases-loop-left l = lines_long l.left
