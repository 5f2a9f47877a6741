-- Faults of pieces, told as faults of opening.
use Rattle.std.proofs.Common.{◌≡◌, ℕ}
use Rattle.trace_outside.specs.declared.piece.PieceFault.{PieceFault}
use Rattle.trace_outside.specs.declared.piece.PieceFault.TheVariants as piece
use Rattle.dat_options.specs.declared.fault.OpenFault.TheVariants.{Read}
use Rattle.trace_outside.specs.Piece as pieces
use Rattle.dat_options.specs.Answer.{KeptAt, fault_of_piece}

pub read_of_piece : (fault : PieceFault) → fault_of_piece fault ≡ Read → fault ≡ piece.Read
read_of_piece (piece.EndsEarly len) e = cc
read_of_piece piece.Read e = cc
read_of_piece piece.Memory e = cc

-- a piece that was not read leaves the count as the fault that it is told as
pub kept_piece : (before now : ℕ) (fault : PieceFault) → pieces.KeptAt before now fault → KeptAt before now (fault_of_piece fault)
kept_piece before now (piece.EndsEarly len) same = same
kept_piece before now piece.Read same = tt
kept_piece before now piece.Memory same = same
