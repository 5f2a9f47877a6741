use Rattle.filter_lang.proofs.GoesOn.{refused_goes_on}
use Rattle.filter_lang.proofs.laws.refused_text_goes_on.Goals as goal

pub returns : goal.returns
returns c = refused_goes_on
