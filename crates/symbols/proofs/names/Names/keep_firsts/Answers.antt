use Rattle.std.proofs.Common.{◌+◌, ◌≤◌, ◌∙◌, None, length, sym, ap, subst}
use Rattle.symbols.specs.declared.names.Spot.{Spot}
use Rattle.symbols.specs.Names.{spots_view, AreWithin}
use Rattle.symbols.proofs.Spots.{firsts_view, firsts_all}
use Rattle.symbols.proofs.names.Names.keep_firsts.Goals as goal

pub returns-clause-value : goal.returns-clause-value
returns-clause-value c = ap (spots_view c.args.self.now.text) c.keep_firsts.ensures ∙ firsts_view c.args.self.now.text None c.args.self.now.spots.items

pub returns-clause-inside : goal.returns-clause-inside
returns-clause-inside c =
    subst (AreWithin c.args.self.now.text) (sym c.keep_firsts.ensures) (firsts_all (λ (s : Spot). s.span.start + s.span.len ≤ length c.args.self.now.text) None c.args.self.now.spots.items c.requires)
