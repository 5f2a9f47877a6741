use Rattle.std.proofs.Common.{ℕ, List, refl, subst, sym, ◌∙◌}
use Rattle.trace_base.specs.declared.part.Part.{Part}
use Rattle.trace_args.specs.Command.{report_view}
use Rattle.subpage.specs.Arrangement.{CpusRise}
use Rattle.subpage.proofs.EmptyParts.{rise_same}
use Rattle.report_context.specs.Context.{context_of}
use Rattle.run_endings.specs.Outside.{sink_seen}
use Rattle.run_endings.specs.Selection.{chosen, has, set_or_all}
use Rattle.run_endings.proofs.Chosen.{chosen_rise}
use Rattle.file_report.specs.Reported.{at_work}
use Rattle.file_report.proofs.Reports.{chosen_reported, events_reported, fly_reported, latency_reported, list_reported, not_begun}
use Rattle.file_report.proofs.report.print_report.Goals as goal

pub returns-in-Some : goal.returns-in-Some
returns-in-Some g c =
    list_reported (report_view c.args.plan.words.now) c.args.plan.header _ c.print_list.result c.in-Some.list _ (g.I.File.faults c.args.file.now) (g.I.File.reads c.args.file.now)
    (sink_seen g.O.Sink c.args.out.now) (sink_seen g.O.Sink c.print_list.new.out)
    c.in-Some.is c.print_list.ensures

pub returns-in-Latency : goal.returns-in-Latency
returns-in-Latency g c =
    let words = report_view c.args.plan.words.now in
    let header = c.args.plan.header in
    let status = c.print_latency.result in
    events_reported words header _ status _ _ _ c.in-None.is
    (latency_reported words header _ status _
    (at_work g.I.File g.O.Sink c.args.file.now c.args.out.now) (at_work g.I.File g.O.Sink c.print_latency.new.file c.print_latency.new.out)
    c.in-Latency.is c.print_latency.ensures.prints c.print_latency.ensures.reads c.print_latency.ensures.kept)

pub print_parts-requires-clause-rise : goal.print_parts-requires-clause-rise
print_parts-requires-clause-rise g c κs live =
    let words = report_view c.args.plan.words.now in
    subst (λ (ps : List (ℕ × Part)). CpusRise ps) (sym (c.as_slice-in-Ok.ensures.value ∙ c.in-Ok.ensures.shown))
    (rise_same (chosen (set_or_all words.cpus) c.as_slice.result.now) (chosen_rise (λ part. has (set_or_all words.cpus) part.0) 0 c.as_slice.result.now).1)

pub returns-in-Ok : goal.returns-in-Ok
returns-in-Ok g c =
    let words = report_view c.args.plan.words.now in
    let header = c.args.plan.header in
    let status = c.print_parts.result in
    events_reported words header _ status _ _ _ c.in-None.is
    (fly_reported words header _ status _ c.as_slice.result.now _ _ _ c.in-Fly.is c.as_slice.ensures
    (chosen_reported words header _ status c.as_slice.result.now (context_of words header) c.as_slice-in-Ok.result.now _ _ refl (c.as_slice-in-Ok.ensures.value ∙ c.in-Ok.ensures.shown) c.print_parts.ensures))

pub returns-in-Err : goal.returns-in-Err
returns-in-Err g c = not_begun _ _ _
