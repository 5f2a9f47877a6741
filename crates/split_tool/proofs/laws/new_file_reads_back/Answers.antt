use Rattle.split_tool.proofs.Laid.{reads_back_all}
use Rattle.split_tool.proofs.laws.new_file_reads_back.Goals as goal

pub returns : goal.returns
returns c = reads_back_all
