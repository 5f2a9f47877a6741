use Rattle.std.proofs.Common.{◌≡◌, refl}
use Rattle.run_words.specs.Job.{Dump, Report}
use Rattle.trace_run.proofs.Endings.{printed_worked}
use Rattle.run_endings.proofs.Endings.{if_no_memory, prints_always}
use Rattle.trace_run.proofs.command.run_on_header.Goals as goal

pub returns-in-Report-clause-worked : goal.returns-in-Report-clause-worked
returns-in-Report-clause-worked g c =
    rw c.in-Report.is (printed_worked (Report _) _ _ c.print_report.result _ _ _ refl c.print_report.ensures.prints)

pub returns-in-Dump-clause-worked : goal.returns-in-Dump-clause-worked
returns-in-Dump-clause-worked g c =
    rw c.in-Dump.is (printed_worked (Dump _) _ _ c.print_dump.result _ _ _ refl (prints_always _ _ _ c.print_dump.result _ _ c.print_dump.ensures))

pub returns-in-Split-clause-worked : goal.returns-in-Split-clause-worked
returns-in-Split-clause-worked g c =
    rw c.in-Split.is record { ended = c.cut_file.ensures.makes _; counts = c.cut_file.ensures.counts; requested = c.cut_file.ensures.requested; out = refl }

pub returns-in-Dump-clause-kept : goal.returns-in-Dump-clause-kept
returns-in-Dump-clause-kept g c = if_no_memory (g.F.In.File.faults c.args.file.now ≡ g.F.In.File.faults c.args.file.now) c.print_dump.result refl

pub returns-in-Report-clause-gathers : goal.returns-in-Report-clause-gathers
returns-in-Report-clause-gathers g c = rw c.in-Report.is c.print_report.ensures.gathers

pub returns-in-Dump-clause-gathers : goal.returns-in-Dump-clause-gathers
returns-in-Dump-clause-gathers g c = rw c.in-Dump.is (λ calls unread. absurd cc)

pub returns-in-Split-clause-gathers : goal.returns-in-Split-clause-gathers
returns-in-Split-clause-gathers g c = rw c.in-Split.is (λ calls unread. absurd cc)
