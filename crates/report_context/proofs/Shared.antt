-- What forms the lines of a report may be used by several threads at once.
use denote.Param.Send.{IsSync, sendable}
use denote.Param.SendFields.{declared_sync}
use Rattle.std.proofs.Crossing.{Vec-sync, crosses}
use Rattle.filter_lang.proofs.expr.FilterExpr.TheLaws.TheKnot as filter_expr
use Rattle.filter_truth.proofs.bound_expr.BoundExpr.TheLaws.TheKnot as bound_expr
use Rattle.filter_truth.specs.contracts.select.FilterUse.{the_row as use_row}
use Rattle.filter_truth.specs.contracts.select.Filters.{the_row as filters_row}
use Rattle.report_print.below.fmt_directives.proofs.directive.Directive.TheSendSync as directive
use Rattle.report_print.below.fmt_expr.proofs.expr.Expr.TheLaws.TheKnot as expr
use Rattle.report_print.below.fmt_expr.specs.contracts.expr.Expr.{the_row as expr_row}
use Rattle.report_print.below.fmt_expr.proofs.kinds.Kind.TheSendSync as kind
use Rattle.report_print.below.fmt_eval.proofs.read.Read.TheSendSync as read
use Rattle.report_print.below.fmt_eval.proofs.read.Test.TheSendSync as test
use Rattle.report_print.below.fmt_print.proofs.argument.TextSlot.TheSendSync as place
use Rattle.report_print.below.fmt_print.specs.contracts.argument.Argument.{the_row as argument_row, the_type as argument_type}
use Rattle.report_print.below.fmt_print.specs.contracts.argument.TextSlot.{the_row as place_row}
use Rattle.report_print.below.fmt_print.proofs.name.Name.TheSendSync as name
use Rattle.report_print.below.fmt_print.specs.contracts.name.Name.{the_row as name_row}
use Rattle.report_print.below.fmt_print.proofs.step.Step.TheSendSync as step
use Rattle.report_print.below.fmt_print.specs.contracts.plan.PrintPlan.{the_row as plan_row}
use Rattle.format_parse.proofs.table.FormatTable.TheSendSync as table
use Rattle.symbols.proofs.maps.Symbols.TheSendSync as symbols
use Rattle.report_print.below.noted_places.proofs.places.Places.TheSendSync as places
use Rattle.report_print.below.format_index.specs.contracts.places.FormatIndex.{the_row as format_index_row}
use Rattle.trace_base.proofs.byte_text.ByteText.TheSendSync as text
use Rattle.line_fronts.proofs.show.Show.TheSendSync as show
use Rattle.line_fronts.specs.contracts.tasks.TaskFront.{the_row as front_row}
use Rattle.report_print.proofs.common.CommonFields.TheSendSync as common
use Rattle.report_print.specs.contracts.context.Context.{the_row as context_row}
use Rattle.report_print.specs.contracts.head.Head.{the_row as head_row}
use Rattle.report_context.specs.contracts.lines.ItemLines.{the_row}

expr_sync : IsSync expr_row
expr_sync = search (expr.crosses, crosses, text.the_sync, sendable) depth 60 fits 20000

place_sync : IsSync place_row
place_sync = search (place.the_sync, sendable) depth 60 fits 20000

name_sync : IsSync name_row
name_sync = search (name.the_sync, sendable) depth 60 fits 20000

argument_sync : IsSync argument_row
argument_sync = declared_sync argument_type (search (expr_sync, sendable), (search (kind.the_field_sync, sendable), (search (read.the_field_sync, sendable), (search (test.the_field_sync, sendable), (search (place_sync, crosses, sendable) depth 60 fits 20000, (search (name_sync, crosses, sendable) depth 60 fits 20000, (search (name_sync, crosses, sendable) depth 60 fits 20000, tt)))))))

plan_sync : IsSync plan_row
plan_sync = search (expr_sync, argument_sync, Vec-sync, directive.the_sync, step.the_sync, text.the_sync, sendable) depth 60 fits 20000

head_sync : IsSync head_row
head_sync = search (plan_sync, text.the_sync, sendable) depth 60 fits 20000

front_sync : IsSync front_row
front_sync = search (text.the_sync, sendable) depth 60 fits 20000

use_sync : IsSync use_row
use_sync = search (crosses, filter_expr.crosses, sendable) depth 60 fits 20000

bound_sync : IsSync filters_row
bound_sync = search (crosses, bound_expr.crosses, sendable) depth 60 fits 20000

format_index_sync : IsSync format_index_row
format_index_sync = search (places.the_sync, sendable) depth 60 fits 20000

context_sync : IsSync context_row
context_sync = search (crosses, use_sync, head_sync, bound_sync, front_sync, Vec-sync, table.the_sync, symbols.the_sync, format_index_sync, common.the_field_sync, show.the_field_sync, sendable) depth 100 fits 50000

pub lines_sync : IsSync the_row
lines_sync = search (context_sync, sendable) depth 60 fits 20000
