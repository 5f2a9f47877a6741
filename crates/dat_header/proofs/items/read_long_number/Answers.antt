use Rattle.std.proofs.Common.{rules}
use Rattle.std.proofs.lemmas.Result.{err_from_is_err_and}
use Rattle.dat_header.proofs.ReadPieces.{number_found, number_failed}
use Rattle.dat_header.proofs.items.read_long_number.Goals as goal

pub returns-in_err-read_piece : goal.returns-in_err-read_piece
returns-in_err-read_piece g c =
    let p = err_from_is_err_and c.from_residual.result c.from_residual.ensures.1 in
    let e = c.in_err-read_piece.ensures in
    rw (p.1, p.2) (number_failed _ 8 c.args.order c.args.at _ _ _ _ (search rules) e.filled c.requires.inside (g.met.F.File.size_is c.args.file.now) e.keeps.bytes e.keeps.size e.keeps.later e.cause e.kept e.most)

pub returns : goal.returns
returns g c =
    let e = c.in_ok-read_piece.ensures in
    number_found 8 c.args.order c.args.at c.read_u64.result _ _ _ (search rules) c.read_u64.ensures e.filled (g.met.F.File.size_is c.args.file.now) e.keeps.bytes e.keeps.size e.kept e.reads
