use Rattle.std.proofs.Common.{◌∙◌, rules}
use Rattle.std.proofs.lemmas.Result.{err_from_is_err_and}
use Rattle.dat_header.specs.Items.{body_words}
use Rattle.dat_header.specs.Header.{last_word_in, last_word_at}
use Rattle.dat_header.proofs.Choices.{choice_found, choice_failed, last_chooses}
use Rattle.dat_header.proofs.sections.read_last_word.Goals as goal

pub returns-in_err-last : goal.returns-in_err-last
unfolding last_word_at
returns-in_err-last g c =
    let p = err_from_is_err_and c.from_residual-in_err-last.result c.from_residual-in_err-last.ensures.1 in
    rw (p.1, p.2) (choice_failed (last_word_in body_words c.args.at) c.args.at c.in_ok-count.count c.len.result c.read_there.new.into _ _ _ (last_chooses c.args.at) (g.met.F.File.size_is c.args.file.now) (search rules) c.requires.inside c.in_ok-count.ensures
    (c.len.ensures ∙ c.in_ok-count.ensures.size) c.in_err-last.ensures)

pub returns : goal.returns
unfolding last_word_at
returns g c =
    choice_found (last_word_in body_words c.args.at) c.args.at c.in_ok-count.count c.len.result c.read_there.new.into _ _ _ (last_chooses c.args.at) (g.met.F.File.size_is c.args.file.now) (search rules) c.requires.inside c.in_ok-count.ensures
    (c.len.ensures ∙ c.in_ok-count.ensures.size) c.in_ok-last.ensures
