use Rattle.std.proofs.Common.{length, arith}
use Rattle.split_pieces.proofs.Cutting.{pieces_iff, joined, within}
use Rattle.split_pieces.proofs.laws.pieces_are_all.Goals as goal

pub returns-clause-pieces : goal.returns-clause-pieces
returns-clause-pieces c = pieces_iff

pub returns-clause-whole : goal.returns-clause-whole
returns-clause-whole c = λ unit xs u. joined unit xs _ (within unit (length xs) xs u (omega arith))
