use Rattle.std.proofs.lemmas.List.Splits.{join_with_byte-slice_split}
use Rattle.text_lines.proofs.lines.joined_lines.Goals as goal

pub returns : goal.returns
returns c = join_with_byte-slice_split 10
