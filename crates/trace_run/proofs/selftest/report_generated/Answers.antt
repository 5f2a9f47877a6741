use Rattle.trace_run.proofs.GeneratedReport.{generated_printed}
use Rattle.trace_run.proofs.SelfTested.{no_uses}
use Rattle.trace_run.proofs.selftest.report_generated.Goals as goal

pub returns-in-Done : goal.returns-in-Done
returns-in-Done g c =
    generated_printed c.args.words.now.seed c.args.words.now.events c.args.words.now.workers _ _ _ _ _ _ _ _ c.in_ok-file.ensures.bytes c.in_ok-file.ensures.generated c.read_header.ensures.keeps.bytes c.in-Ok.ensures.answer
    c.plain_words-plain.ensures c.in-Done.ensures.prints

pub print_report-requires-clause-filters : goal.print_report-requires-clause-filters
print_report-requires-clause-filters g c κs live = no_uses _ c.args.words.now.workers _ c.plain_words-plain.ensures c.new-filters.ensures.items
