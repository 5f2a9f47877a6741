-- The text of each topic: the constants of `src/help.rt`.
use Rattle.std.specs.Prelude.{ℕ, List}
use Rattle.trace_args.specs.declared.help.TheConstants.{PROGRAM, REPORT, SPLIT, RESTORE, DUMP, SELFTEST, VERSION}
use Rattle.trace_args.specs.declared.tool.Tool.TheVariants as tool
use Rattle.trace_args.specs.declared.topic.Topic.{Topic}
use Rattle.trace_args.specs.declared.topic.Topic.TheVariants.{Help, HelpOf, Version}

abbrev pub topic_text : Topic → List ℕ
topic_text Help = PROGRAM.now
topic_text (HelpOf tool.Report) = REPORT.now
topic_text (HelpOf tool.Dump) = DUMP.now
topic_text (HelpOf tool.SelfTest) = SELFTEST.now
topic_text (HelpOf tool.Split) = SPLIT.now
topic_text (HelpOf tool.Restore) = RESTORE.now
topic_text Version = VERSION.now
