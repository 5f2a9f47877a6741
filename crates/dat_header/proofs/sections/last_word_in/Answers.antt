use Rattle.std.proofs.Common.{true, false, sym, ◌∙◌}
use Rattle.dat_header.specs.Items.{latency_word, fly_word}
use Rattle.dat_header.proofs.Choices.{last_missing, begins_not}
use Rattle.dat_header.proofs.sections.last_word_in.Goals as goal

pub returns-then-is_cut : goal.returns-then-is_cut
returns-then-is_cut c =
    let l = begins_not c.args.there.now latency_word _ c.starts_with.ensures.value c.if-starts_with.false in
    let f = begins_not c.args.there.now fly_word _ c.starts_with-else-starts_with.ensures.value c.if-starts_with-2.false in
    last_missing c.args.words.now c.args.at c.args.there.now c.args.size true l f (sym c.if-is_cut.true ∙ c.is_cut.ensures)

pub returns-else-is_cut : goal.returns-else-is_cut
returns-else-is_cut c =
    let l = begins_not c.args.there.now latency_word _ c.starts_with.ensures.value c.if-starts_with.false in
    let f = begins_not c.args.there.now fly_word _ c.starts_with-else-starts_with.ensures.value c.if-starts_with-2.false in
    last_missing c.args.words.now c.args.at c.args.there.now c.args.size false l f (sym c.if-is_cut.false ∙ c.is_cut.ensures)
