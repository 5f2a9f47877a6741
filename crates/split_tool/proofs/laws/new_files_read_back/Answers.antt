use Rattle.split_tool.proofs.FewBytes.{files_back}
use Rattle.split_tool.proofs.laws.new_files_read_back.Goals as goal

pub returns : goal.returns
returns c = files_back
