use Rattle.trace_args.proofs.HelpLaws.{about_and_more}
use Rattle.trace_args.proofs.laws.help_is_last.Goals as goal

pub returns : goal.returns
returns c = about_and_more
