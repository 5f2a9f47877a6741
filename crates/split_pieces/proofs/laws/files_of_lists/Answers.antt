use Rattle.split_pieces.proofs.SideBySide.{file_is, all_used}
use Rattle.split_pieces.proofs.laws.files_of_lists.Goals as goal

pub returns-clause-pieces : goal.returns-clause-pieces
returns-clause-pieces c = file_is

pub returns-clause-whole : goal.returns-clause-whole
returns-clause-whole c = all_used
