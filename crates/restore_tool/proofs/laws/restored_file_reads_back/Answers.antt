use Rattle.restore_tool.proofs.Making.{reads_back}
use Rattle.restore_tool.proofs.laws.restored_file_reads_back.Goals as goal

pub returns : goal.returns
returns c = reads_back
