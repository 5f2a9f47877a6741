use Rattle.std.proofs.Common.{◌≡◌, ◌++◌, map}
use Rattle.text_lines.specs.Lines.{lines_of, lines_left}
use Rattle.text_lines.proofs.Splits.{lines_long}
use Rattle.format_parse.specs.FieldKinds.{field_of}
use Rattle.format_parse.specs.Format.{field_data, print_text}
use Rattle.format_parse.proofs.parse.read_fields.Given as goal

abbrev pub invariant-loop-left : goal.invariant-loop-left
invariant-loop-left l = record {
  fields : l.fields.items ++ map field_of (field_data (lines_left l.left)) ≡ map field_of (field_data (lines_of l.fn.text));
  print : print_text (lines_left l.left) ≡ print_text (lines_of l.fn.text);
}

abbrev pub decreases-loop-left : goal.decreases-loop-left
decreases-loop-left l = lines_long l.left
