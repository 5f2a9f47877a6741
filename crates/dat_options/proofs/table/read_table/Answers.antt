use Rattle.dat_options.specs.Answer.{fault_of_piece}
use Rattle.std.proofs.Common.{◌∙◌}
use Rattle.std.proofs.lemmas.Result.{err_from_is_err_and}
use Rattle.dat_options.proofs.Pieces.{kept_piece}
use Rattle.dat_options.proofs.TableFound.{Faulty, faulty, Found, all_found}
use Rattle.dat_options.proofs.table.read_table.Goals as goal

pub returns-in_err-text-clause-found : goal.returns-in_err-text-clause-found
returns-in_err-text-clause-found g c =
    let fault : Faulty c.args.order c.args.cpus (g.F.File.bytes c.args.file.now) c.args.at (fault_of_piece c.in_err-text.field-0.0) = faulty c.args.order c.args.cpus _ _ c.args.at c.in_err-text.field-0.0 (g.met.F.File.size_is c.args.file.now) c.in_err-text.ensures.given in
    let p = err_from_is_err_and c.from_residual.result c.from_residual.ensures.1 in
    rw (p.1, p.2) fault.found

pub returns-in_err-text-clause-exact : goal.returns-in_err-text-clause-exact
returns-in_err-text-clause-exact g c =
    let fault : Faulty c.args.order c.args.cpus (g.F.File.bytes c.args.file.now) c.args.at (fault_of_piece c.in_err-text.field-0.0) = faulty c.args.order c.args.cpus _ _ c.args.at c.in_err-text.field-0.0 (g.met.F.File.size_is c.args.file.now) c.in_err-text.ensures.given in
    let p = err_from_is_err_and c.from_residual.result c.from_residual.ensures.1 in
    rw (p.1, p.2) fault.exact

pub returns-in_err-text-clause-kept : goal.returns-in_err-text-clause-kept
returns-in_err-text-clause-kept g c =
    let p = err_from_is_err_and c.from_residual.result c.from_residual.ensures.1 in
    rw (p.1, p.2) (kept_piece _ _ c.in_err-text.field-0.0 c.in_err-text.ensures.kept)

pub returns-clause-found : goal.returns-clause-found
returns-clause-found g c =
    let found : Found c.args.order c.args.cpus (g.F.File.bytes c.args.file.now) c.args.at c.in_ok-parts.parts = all_found c.args.order c.args.cpus _ _ c.args.at c.in_ok-parts.parts c.in_ok-text.text (g.met.F.File.size_is c.args.file.now)
    (c.in_ok-parts.ensures.spelled ∙ c.as_bytes.ensures) c.in_ok-text.ensures.given in
    found.found

pub returns-clause-exact : goal.returns-clause-exact
returns-clause-exact g c =
    let found : Found c.args.order c.args.cpus (g.F.File.bytes c.args.file.now) c.args.at c.in_ok-parts.parts = all_found c.args.order c.args.cpus _ _ c.args.at c.in_ok-parts.parts c.in_ok-text.text (g.met.F.File.size_is c.args.file.now)
    (c.in_ok-parts.ensures.spelled ∙ c.as_bytes.ensures) c.in_ok-text.ensures.given in
    found.exact

pub returns-clause-count : goal.returns-clause-count
returns-clause-count g c =
    let found : Found c.args.order c.args.cpus (g.F.File.bytes c.args.file.now) c.args.at c.in_ok-parts.parts = all_found c.args.order c.args.cpus _ _ c.args.at c.in_ok-parts.parts c.in_ok-text.text (g.met.F.File.size_is c.args.file.now)
    (c.in_ok-parts.ensures.spelled ∙ c.as_bytes.ensures) c.in_ok-text.ensures.given in
    found.count
