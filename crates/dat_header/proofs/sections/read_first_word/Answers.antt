use Rattle.std.proofs.Common.{◌∙◌, rules}
use Rattle.std.proofs.lemmas.Result.{err_from_is_err_and}
use Rattle.dat_header.specs.Header.{first_word_in, first_word_at}
use Rattle.dat_header.proofs.Choices.{choice_found, choice_failed, first_chooses}
use Rattle.dat_header.proofs.sections.read_first_word.Goals as goal

pub returns-in_err-first : goal.returns-in_err-first
unfolding first_word_at
returns-in_err-first g c =
    let p = err_from_is_err_and c.from_residual-in_err-first.result c.from_residual-in_err-first.ensures.1 in
    rw (p.1, p.2) (choice_failed (first_word_in c.args.at) c.args.at c.in_ok-count.count c.len.result c.read_there.new.into _ _ _ (first_chooses c.args.at) (g.met.F.File.size_is c.args.file.now) (search rules) c.requires.inside c.in_ok-count.ensures
    (c.len.ensures ∙ c.in_ok-count.ensures.size) c.in_err-first.ensures)

pub returns : goal.returns
unfolding first_word_at
returns g c =
    choice_found (first_word_in c.args.at) c.args.at c.in_ok-count.count c.len.result c.read_there.new.into _ _ _ (first_chooses c.args.at) (g.met.F.File.size_is c.args.file.now) (search rules) c.requires.inside c.in_ok-count.ensures
    (c.len.ensures ∙ c.in_ok-count.ensures.size) c.in_ok-first.ensures
