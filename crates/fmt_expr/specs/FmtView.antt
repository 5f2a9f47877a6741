-- A print fmt as plain data.
use Rattle.std.specs.Prelude.{map}
use Rattle.fmt_expr.specs.Parsing.{FmtData}
use Rattle.fmt_expr.specs.TreeView.{tree_of}
use Rattle.fmt_expr.specs.declared.print_fmt.PrintFmt.{PrintFmt}

abbrev pub fmt_of : PrintFmt → FmtData
fmt_of p = record { text = p.text; args = map tree_of p.args; long = p.long }
