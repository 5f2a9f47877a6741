use Rattle.word_values.proofs.CpuLaws.{members_below-at}
use Rattle.word_values.proofs.laws.members_of_ranges.Goals as goal

pub returns : goal.returns
returns c = members_below-at
