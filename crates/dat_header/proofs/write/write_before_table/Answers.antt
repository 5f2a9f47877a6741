use Rattle.std.proofs.Common.{[]}
use Rattle.std.proofs.lemmas.Result.{err_from_is_err_and}
use Rattle.dat_header.proofs.Written.{writes_as, writes_then, writes_failed, whole_text}
use Rattle.dat_header.proofs.write.write_before_table.Goals as goal

pub returns-in_err-write_front : goal.returns-in_err-write_front
returns-in_err-write_front g c =
    let p = err_from_is_err_and c.from_residual.result c.from_residual.ensures.1 in
    rw (p.1, p.2) (writes_as _ _ _ _ _ (whole_text c.args.header.now []) (writes_failed _ _ _ _ _ c.in_err-write_front.ensures))

pub returns-in_err-write_texts : goal.returns-in_err-write_texts
returns-in_err-write_texts g c =
    let p = err_from_is_err_and c.from_residual-in_err-write_texts.result c.from_residual-in_err-write_texts.ensures.1 in
    rw (p.1, p.2) (writes_as _ _ _ _ _ (whole_text c.args.header.now []) (writes_then _ _ _ _ _ _ _ c.in_ok-write_front.ensures (writes_failed _ _ _ _ _ c.in_err-write_texts.ensures)))

pub returns : goal.returns
returns g c = writes_as _ _ _ _ _ (whole_text c.args.header.now []) (writes_then _ _ _ _ _ _ _ c.in_ok-write_front.ensures (writes_then _ _ _ _ _ _ _ c.in_ok-write_texts.ensures (c.write_sections.ensures)))
