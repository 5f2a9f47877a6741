-- The rows of a list of entries.
use Rattle.std.specs.Prelude.{List, map}
use Rattle.fmt_expr.specs.declared.expr.Entry.{Entry}
use Rattle.fmt_expr.specs.TreeView.{tree_of}
use Rattle.fmt_eval.specs.Numbers.{pattern}
use Rattle.fmt_eval.specs.Values.{RecData, number_of}
use Rattle.fmt_eval.specs.Flags.{Row}

abbrev pub row_of : RecData → Entry → Row
row_of g e = (pattern (number_of g (tree_of e.value)).exact, e.text)

abbrev pub rows_in : RecData → List Entry → List Row
rows_in g entries = map (row_of g) entries
