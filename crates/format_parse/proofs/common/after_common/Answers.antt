use Rattle.format_parse.specs.CommonFields.{common_lines}
use Rattle.format_parse.proofs.CommonFields.{after_begins}
use Rattle.format_parse.proofs.common.after_common.Goals as goal

pub returns : goal.returns
unfolding common_lines
returns c = after_begins c.after_front.result c.args.text.now c.after_front.ensures
