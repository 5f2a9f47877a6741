-- How many threads words that have a reading ask for.
use Rattle.std.proofs.Common.{◌≡◌, ℕ, List, Option, Some, None, unwrap_or, refl, sym, subst, arith}
use Rattle.std.specs.Option.{option_and_then}
use Rattle.trace_args.specs.declared.option.ValuedOption.TheVariants as valued
use Rattle.trace_args.specs.declared.tool.Tool.{Tool}
use Rattle.trace_args.specs.declared.tool.Tool.TheVariants as tool
use Rattle.trace_args.specs.Asked.{report_of, self_of, work_of, workers_of}
use Rattle.trace_args.specs.Command.{ReportData, SelfData, Report, SelfTest}
use Rattle.trace_args.specs.Given.{value_of}
use Rattle.word_values.specs.Number.{number_of, worker_count}
use Rattle.trace_args.specs.Reading.{Reads}
use Rattle.trace_args.specs.Setting.{Text, Setting}
use Rattle.run_words.specs.Allowed.{IsWorkers}
use Rattle.trace_args.proofs.HelpLaws.{works}
use Rattle.run_words.proofs.Numbers.{within_of}

count_good : (count : Option ℕ) → ((n : ℕ) → count ≡ Some n → IsWorkers n) → IsWorkers (unwrap_or count 1)
count_good None good = (omega arith, omega arith)
count_good (Some n) good = good n refl

value_good : (value : Option Text) → IsWorkers (unwrap_or (option_and_then (λ text. worker_count text.bytes) value) 1)
value_good None = (omega arith, omega arith)
value_good (Some text) = count_good (worker_count text.bytes) (λ n h. within_of n 1 64 (number_of text.bytes) h)

workers_good : (settings : List Setting) → IsWorkers (workers_of settings)
workers_good settings = value_good (value_of valued.Workers settings)

report_by_tool : (command : Tool) (settings : List Setting) (words : ReportData) → Report words ≡ work_of command settings → IsWorkers words.workers
report_by_tool tool.Report settings words is =
    let same : words ≡ report_of settings = cc in
    subst (λ (w : ReportData). IsWorkers w.workers) (sym same) (workers_good settings)
report_by_tool tool.Dump settings words is = cc
report_by_tool tool.SelfTest settings words is = cc
report_by_tool tool.Split settings words is = cc
report_by_tool tool.Restore settings words is = cc

pub report_workers : (given : List (List ℕ)) (words : ReportData) → Reads given (Report words) → IsWorkers words.workers
report_workers given words reads =
    let asks = works given (Report words) (λ topic is. cc) reads in
    report_by_tool asks.command asks.settings words asks.work_is

self_by_tool : (command : Tool) (settings : List Setting) (words : SelfData) → SelfTest words ≡ work_of command settings → IsWorkers words.workers
self_by_tool tool.SelfTest settings words is =
    let same : words ≡ self_of settings = cc in
    subst (λ (w : SelfData). IsWorkers w.workers) (sym same) (workers_good settings)
self_by_tool tool.Report settings words is = cc
self_by_tool tool.Dump settings words is = cc
self_by_tool tool.Split settings words is = cc
self_by_tool tool.Restore settings words is = cc

pub self_test_workers : (given : List (List ℕ)) (words : SelfData) → Reads given (SelfTest words) → IsWorkers words.workers
self_test_workers given words reads =
    let asks = works given (SelfTest words) (λ topic is. cc) reads in
    self_by_tool asks.command asks.settings words asks.work_is
