use Rattle.std.proofs.Common.{rules, ◌∙◌}
use Rattle.dat_header.proofs.Words.{word_steps}
use Rattle.dat_header.proofs.items.read_word.Goals as goal

pub returns : goal.returns
returns g c =
    word_steps c.args.word.now c.args.wrong c.args.at c.in_ok-count.count c.len.result c.read_there.new.into _ _ c.word_in.result (g.met.F.File.size_is c.args.file.now) (search rules) c.requires.inside c.requires.refusal c.in_ok-count.ensures
    (c.len.ensures ∙ c.in_ok-count.ensures.size) c.word_in.ensures
