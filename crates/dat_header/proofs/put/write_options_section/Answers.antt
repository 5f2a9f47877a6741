use Rattle.std.proofs.Common.{ap, sym, ◌∙◌, ◌++◌, List}
use Rattle.std.proofs.lemmas.Result.{err_from_is_err_and}
use Rattle.dat_options.specs.declared.option.Opt.{Opt}
use Rattle.dat_options.specs.Options.{options_text}
use Rattle.dat_header.specs.Items.{options_word}
use Rattle.dat_header.specs.Written.{options_section}
use Rattle.dat_header.proofs.Written.{writes_by, writes_as, writes_then, writes_failed}
use Rattle.dat_header.proofs.put.write_options_section.Goals as goal

pub returns-in_err-write_all-in-Some : goal.returns-in_err-write_all-in-Some
returns-in_err-write_all-in-Some g c =
    let order = c.args.header.now.order in
    let p = err_from_is_err_and c.from_residual.result c.from_residual.ensures.1 in
    let e = c.in_err-write_all-in-Some.ensures in
    rw (p.1, p.2) (writes_as (options_word ++ options_text order c.in-Some.options) _ _ _ _ (ap (options_section order) (sym c.in-Some.is))
    (writes_failed _ _ _ _ _ (writes_by _ _ _ _ e.gained e.prefix e.name e.cause)))

pub returns-in_ok-write_all-in-Some : goal.returns-in_ok-write_all-in-Some
returns-in_ok-write_all-in-Some g c =
    let order = c.args.header.now.order in
    let e = c.in_ok-write_all-in-Some.ensures in
    let f = c.write_options.ensures in
    writes_as _ _ _ _ _ (ap (λ (os : List Opt). options_word ++ options_text order os) c.as_slice.ensures ∙ ap (options_section order) (sym c.in-Some.is))
    (writes_then _ _ _ _ _ _ _ (writes_by _ _ _ _ e.gained e.prefix e.name e.cause) (writes_by _ _ _ _ f.gained f.prefix f.name f.cause))
