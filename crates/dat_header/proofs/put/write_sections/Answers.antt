use Rattle.std.proofs.lemmas.Result.{err_from_is_err_and}
use Rattle.dat_header.proofs.Written.{writes_by, writes_as, writes_then, writes_failed, sections_text}
use Rattle.dat_header.proofs.put.write_sections.Goals as goal

pub returns-in_err-write_number : goal.returns-in_err-write_number
returns-in_err-write_number g c =
    let p = err_from_is_err_and c.from_residual.result c.from_residual.ensures.1 in
    rw (p.1, p.2) (writes_as _ _ _ _ _ (sections_text c.args.header.now) (writes_failed _ _ _ _ _ c.in_err-write_number.ensures))

pub returns-in_err-write_options_section : goal.returns-in_err-write_options_section
returns-in_err-write_options_section g c =
    let p = err_from_is_err_and c.from_residual-in_err-write_options_section.result c.from_residual-in_err-write_options_section.ensures.1 in
    rw (p.1, p.2) (writes_as _ _ _ _ _ (sections_text c.args.header.now) (writes_then _ _ _ _ _ _ _ c.in_ok-write_number.ensures (writes_failed _ _ _ _ _ c.in_err-write_options_section.ensures)))

pub returns : goal.returns
returns g c = writes_as _ _ _ _ _ (sections_text c.args.header.now) (writes_then _ _ _ _ _ _ _ c.in_ok-write_number.ensures (writes_then _ _ _ _ _ _ _ c.in_ok-write_options_section.ensures ((writes_by _ _ _ _ c.write_all.ensures.gained c.write_all.ensures.prefix c.write_all.ensures.name c.write_all.ensures.cause))))
