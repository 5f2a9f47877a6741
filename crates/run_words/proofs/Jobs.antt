-- The job that a reading asks for.
use Rattle.std.proofs.Common.{◌≡◌, ◌≢◌, ℕ, List, Result, Ok, Err, ap}
use Rattle.trace_args.specs.declared.fault.WordFault.{WordFault}
use Rattle.trace_args.specs.declared.fault.WordKind.TheVariants as kind
use Rattle.trace_args.specs.declared.topic.Topic.{Topic}
use Rattle.trace_args.specs.Command as asked
use Rattle.trace_args.specs.Command.{CommandData, ReportData, DumpData, SelfData, SplitData, RestoreData}
use Rattle.trace_args.specs.Faults.{no_memory}
use Rattle.trace_args.specs.Reading.{reading}
use Rattle.run_words.specs.Job.{OnFile, SelfTest, Restore, About, Dump, Split, job_of, job_read, report_job}

job_is : (words : List (List ℕ)) (read : Result CommandData WordFault) → reading words ≡ read → job_of words ≡ job_read read
unfolding job_of
job_is words read is = ap (λ (r : Result CommandData WordFault). job_read r) is

pub report_asked : (words : List (List ℕ)) (report : ReportData) → reading words ≡ Ok (asked.Report report) → job_of words ≡ Ok (report_job report)
report_asked words report is = job_is words (Ok (asked.Report report)) is

pub dump_asked : (words : List (List ℕ)) (dump : DumpData) → reading words ≡ Ok (asked.Dump dump) → job_of words ≡ Ok (OnFile (Dump dump))
dump_asked words dump is = job_is words (Ok (asked.Dump dump)) is

pub self_test_asked : (words : List (List ℕ)) (test : SelfData) → reading words ≡ Ok (asked.SelfTest test) → job_of words ≡ Ok (SelfTest test)
self_test_asked words test is = job_is words (Ok (asked.SelfTest test)) is

pub split_asked : (words : List (List ℕ)) (split : SplitData) → reading words ≡ Ok (asked.Split split) → job_of words ≡ Ok (OnFile (Split split))
split_asked words split is = job_is words (Ok (asked.Split split)) is

pub restore_asked : (words : List (List ℕ)) (restore : RestoreData) → reading words ≡ Ok (asked.Restore restore) → job_of words ≡ Ok (Restore restore)
restore_asked words restore is = job_is words (Ok (asked.Restore restore)) is

pub about_asked : (words : List (List ℕ)) (topic : Topic) → reading words ≡ Ok (asked.About topic) → job_of words ≡ Ok (About topic)
about_asked words topic is = job_is words (Ok (asked.About topic)) is

pub none_asked : (words : List (List ℕ)) (wrong : WordFault) → (wrong ≢ no_memory → reading words ≡ Err wrong) → wrong.kind ≢ kind.Memory → job_of words ≡ Err wrong
none_asked words wrong is other = job_is words (Err wrong) (is (λ same. other (ap (λ (fault : WordFault). fault.kind) same)))
