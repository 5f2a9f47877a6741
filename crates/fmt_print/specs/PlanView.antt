-- A plan of the code as plain data.
use Rattle.std.specs.Prelude.{map}
use Rattle.fmt_expr.specs.TreeView.{tree_of}
use Rattle.fmt_print.specs.declared.plan.PrintPlan.{PrintPlan}
use Rattle.fmt_print.specs.Plan.{Plan}

abbrev pub plan_view : PrintPlan → Plan
plan_view p = record { text = p.text; directives = p.directives.items; args = map tree_of p.args; long = p.long }
