use Rattle.filter_lang.proofs.LexLaws.{text_one_filter}
use Rattle.filter_lang.proofs.laws.one_filter.Goals as goal

pub returns : goal.returns
returns c = text_one_filter
