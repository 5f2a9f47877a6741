use Rattle.std.proofs.lemmas.Result.{err_from_is_err_and}
use Rattle.dat_header.proofs.ReadPieces.{content_found, content_failed, failed_piece}
use Rattle.dat_header.proofs.items.read_content.Goals as goal

pub returns-in_err-text-clause-steps : goal.returns-in_err-text-clause-steps
returns-in_err-text-clause-steps g c =
    let p = err_from_is_err_and c.from_residual.result c.from_residual.ensures.1 in
    let e = c.in_err-text.ensures in
    rw (p.1, p.2) (content_failed _ c.args.size c.args.at _ _ _ (failed_piece (g.F.File.bytes c.args.file.now) _ _ _ _ e.given) c.requires.inside (g.met.F.File.size_is c.args.file.now) e.keeps.bytes e.keeps.size e.keeps.later e.cause e.kept e.most)

pub returns-clause-steps : goal.returns-clause-steps
returns-clause-steps g c =
    let e = c.in_ok-text.ensures in
    content_found c.args.size c.args.at c.in_ok-text.text _ _ e.given.0 e.given.1 e.given.2 (g.met.F.File.size_is c.args.file.now) e.keeps.bytes e.keeps.size e.kept e.reads
