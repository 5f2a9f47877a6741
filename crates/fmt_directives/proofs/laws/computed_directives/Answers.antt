use Rattle.fmt_directives.proofs.Spellings.{computed_spells, spelled_computed}
use Rattle.fmt_directives.proofs.laws.computed_directives.Goals as goal

pub returns : goal.returns
returns c text ds = (λ h. computed_spells text ds h, λ s. spelled_computed text ds s)
