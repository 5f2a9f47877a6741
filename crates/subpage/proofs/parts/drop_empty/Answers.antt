use Rattle.std.proofs.Common.{rules}
use Rattle.std.proofs.lemmas.Fn.{filter_same}
use Rattle.subpage.specs.WithBytes.{has_bytes}
use Rattle.subpage.proofs.parts.drop_empty.Goals as goal

pub returns-clause-left : goal.returns-clause-left
returns-clause-left c = filter_same _ has_bytes _ (λ x b q k. search rules) _ _ c.retain.ensures.filtered
