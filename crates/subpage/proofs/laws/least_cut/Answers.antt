use Rattle.subpage.specs.Cut.{cuts_of, cut_of}
use Rattle.subpage.proofs.Cuts.{when_some, when_none}
use Rattle.subpage.proofs.laws.least_cut.Goals as goal

pub returns-clause-least : goal.returns-clause-least
unfolding cut_of
returns-clause-least c = λ layout file parts. when_some (cuts_of layout file parts)

pub returns-clause-none : goal.returns-clause-none
unfolding cut_of
returns-clause-none c = λ layout file parts. when_none (cuts_of layout file parts)
