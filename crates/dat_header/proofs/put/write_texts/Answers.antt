use Rattle.std.proofs.lemmas.Result.{err_from_is_err_and}
use Rattle.dat_header.proofs.Written.{writes_by, writes_as, writes_then, writes_failed, texts_text}
use Rattle.dat_header.proofs.put.write_texts.Goals as goal

pub returns-in_err-write_all : goal.returns-in_err-write_all
returns-in_err-write_all g c =
    let p = err_from_is_err_and c.from_residual.result c.from_residual.ensures.1 in
    rw (p.1, p.2) (writes_as _ _ _ _ _ (texts_text c.args.header.now) (writes_failed _ _ _ _ _ (writes_by _ _ _ _ c.in_err-write_all.ensures.gained c.in_err-write_all.ensures.prefix c.in_err-write_all.ensures.name c.in_err-write_all.ensures.cause)))

pub returns-in_err-write_long_text : goal.returns-in_err-write_long_text
returns-in_err-write_long_text g c =
    let p = err_from_is_err_and c.from_residual-in_err-write_long_text.result c.from_residual-in_err-write_long_text.ensures.1 in
    rw (p.1, p.2) (writes_as _ _ _ _ _ (texts_text c.args.header.now) (writes_then _ _ _ _ _ _ _ (writes_by _ _ _ _ c.in_ok-write_all.ensures.gained c.in_ok-write_all.ensures.prefix c.in_ok-write_all.ensures.name c.in_ok-write_all.ensures.cause) (writes_failed _ _ _ _ _ c.in_err-write_long_text.ensures)))

pub returns-in_err-write_formats : goal.returns-in_err-write_formats
returns-in_err-write_formats g c =
    let p = err_from_is_err_and c.from_residual-in_err-write_formats.result c.from_residual-in_err-write_formats.ensures.1 in
    rw (p.1, p.2) (writes_as _ _ _ _ _ (texts_text c.args.header.now) (writes_then _ _ _ _ _ _ _ (writes_by _ _ _ _ c.in_ok-write_all.ensures.gained c.in_ok-write_all.ensures.prefix c.in_ok-write_all.ensures.name c.in_ok-write_all.ensures.cause) (writes_then _ _ _ _ _ _ _ c.in_ok-write_long_text.ensures (writes_failed _ _ _ _ _ c.in_err-write_formats.ensures))))

pub returns-in_err-write_systems : goal.returns-in_err-write_systems
returns-in_err-write_systems g c =
    let p = err_from_is_err_and c.from_residual-in_err-write_systems.result c.from_residual-in_err-write_systems.ensures.1 in
    rw (p.1, p.2) (writes_as _ _ _ _ _ (texts_text c.args.header.now) (writes_then _ _ _ _ _ _ _ (writes_by _ _ _ _ c.in_ok-write_all.ensures.gained c.in_ok-write_all.ensures.prefix c.in_ok-write_all.ensures.name c.in_ok-write_all.ensures.cause) (writes_then _ _ _ _ _ _ _ c.in_ok-write_long_text.ensures (writes_then _ _ _ _ _ _ _ c.in_ok-write_formats.ensures (writes_failed _ _ _ _ _ c.in_err-write_systems.ensures)))))

pub returns-in_err-write_text : goal.returns-in_err-write_text
returns-in_err-write_text g c =
    let p = err_from_is_err_and c.from_residual-in_err-write_text.result c.from_residual-in_err-write_text.ensures.1 in
    rw (p.1, p.2) (writes_as _ _ _ _ _ (texts_text c.args.header.now) (writes_then _ _ _ _ _ _ _ (writes_by _ _ _ _ c.in_ok-write_all.ensures.gained c.in_ok-write_all.ensures.prefix c.in_ok-write_all.ensures.name c.in_ok-write_all.ensures.cause) (writes_then _ _ _ _ _ _ _ c.in_ok-write_long_text.ensures (writes_then _ _ _ _ _ _ _ c.in_ok-write_formats.ensures (writes_then _ _ _ _ _ _ _ c.in_ok-write_systems.ensures (writes_failed _ _ _ _ _ c.in_err-write_text.ensures))))))

pub returns-in_err-write_text-2 : goal.returns-in_err-write_text-2
returns-in_err-write_text-2 g c =
    let p = err_from_is_err_and c.from_residual-in_err-write_text-2.result c.from_residual-in_err-write_text-2.ensures.1 in
    rw (p.1, p.2) (writes_as _ _ _ _ _ (texts_text c.args.header.now) (writes_then _ _ _ _ _ _ _ (writes_by _ _ _ _ c.in_ok-write_all.ensures.gained c.in_ok-write_all.ensures.prefix c.in_ok-write_all.ensures.name c.in_ok-write_all.ensures.cause) (writes_then _ _ _ _ _ _ _ c.in_ok-write_long_text.ensures (writes_then _ _ _ _ _ _ _ c.in_ok-write_formats.ensures (writes_then _ _ _ _ _ _ _ c.in_ok-write_systems.ensures (writes_then _ _ _ _ _ _ _ c.in_ok-write_text.ensures (writes_failed _ _ _ _ _ c.in_err-write_text-2.ensures)))))))

pub returns : goal.returns
returns g c = writes_as _ _ _ _ _ (texts_text c.args.header.now) (writes_then _ _ _ _ _ _ _ (writes_by _ _ _ _ c.in_ok-write_all.ensures.gained c.in_ok-write_all.ensures.prefix c.in_ok-write_all.ensures.name c.in_ok-write_all.ensures.cause) (writes_then _ _ _ _ _ _ _ c.in_ok-write_long_text.ensures (writes_then _ _ _ _ _ _ _ c.in_ok-write_formats.ensures (writes_then _ _ _ _ _ _ _ c.in_ok-write_systems.ensures (writes_then _ _ _ _ _ _ _ c.in_ok-write_text.ensures (writes_then _ _ _ _ _ _ _ c.in_ok-write_text-2.ensures (c.write_long_text-2.ensures)))))))
