-- An argument of the code as plain data.
use Rattle.std.specs.Prelude.{List, map}
use Rattle.fmt_expr.specs.Tree.{Tree}
use Rattle.fmt_expr.specs.TreeView.{tree_of}
use Rattle.fmt_print.specs.declared.argument.Argument.{Argument}

abbrev pub argument_tree : Argument → Tree
argument_tree a = tree_of a.tree

abbrev pub trees : List Argument → List Tree
trees args = map argument_tree args
