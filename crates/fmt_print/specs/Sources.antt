-- What a printer prints from.
use Rattle.fmt_eval.specs.Values.{given}
use Rattle.fmt_print.specs.PlanView.{plan_view}
use Rattle.fmt_print.specs.Printed.{Source, source_of}
use Rattle.fmt_print.specs.declared.conversions.Printer.{Printer}

abbrev pub source : Printer → Source
source p = source_of (plan_view p.plan.now) (given p.rec.now) p.symbols.now
