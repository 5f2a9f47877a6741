use Rattle.std.proofs.Common.{Err, refl, ap, arith}
use Rattle.trace_outside.specs.Causes.{Rose}
use Rattle.file_report.specs.Meaning.{latency_report}
use Rattle.run_endings.specs.declared.status.Status.TheVariants.{Done, ReadFault, WriteFault}
use Rattle.file_report.proofs.Latency.{latency_done, latency_unread, latency_unwritten, latency_unbegun}
use Rattle.run_endings.proofs.Printed.{printed_of}
use Rattle.file_report.proofs.report.print_latency.Goals as goal

pub returns-in-Err-clause-prints : goal.returns-in-Err-clause-prints
returns-in-Err-clause-prints g c =
    printed_of _ (latency_report c.args.cpus c.args.end) _ WriteFault _ _ (λ bytes. refl)
    (latency_unbegun _ c.args.cpus c.args.end _ _ c.in-Err.ensures.writes.prefix) c.in-Err.ensures.writes.cause.failed

pub returns-in-Ok-copy_rest-clause-prints : goal.returns-in-Ok-copy_rest-clause-prints
returns-in-Ok-copy_rest-clause-prints g c =
    printed_of _ (latency_report c.args.cpus c.args.end) _ Done _ _ (λ bytes. refl)
    (latency_done _ _ c.args.cpus c.args.end _ _ _ (g.met.I.File.size_is c.args.file.now) c.in-Ok.ensures.writes.gained c.in-Ok-copy_rest.ensures.copies) tt

pub returns-in-Err-Read-clause-prints : goal.returns-in-Err-Read-clause-prints
returns-in-Err-Read-clause-prints g c =
    printed_of _ (latency_report c.args.cpus c.args.end) _ ReadFault _ _ (λ bytes. refl)
    (latency_unread _ _ c.args.cpus c.args.end _ _ _ (g.met.I.File.size_is c.args.file.now) c.in-Ok.ensures.writes.gained c.in-Err-Read.ensures.copies) (c.in-Err-Read.ensures.read (ap Err c.in-Err-Read.field-0-is))

pub returns-clause-prints : goal.returns-clause-prints
returns-clause-prints g c =
    let rose : Rose (g.O.Sink.faults c.print_cpus.new.out) (g.O.Sink.faults c.copy_rest.new.out) = c.in-Err-Write.ensures.write (ap Err c.in-Err-Write.field-0-is) in
    printed_of _ (latency_report c.args.cpus c.args.end) _ WriteFault _ _ (λ bytes. refl)
    (latency_unwritten _ _ c.args.cpus c.args.end _ _ _ (g.met.I.File.size_is c.args.file.now) c.in-Ok.ensures.writes.gained c.in-Err-Write.ensures.copies)
    (omega (arith, rose, c.in-Ok.ensures.writes.cause.later))
