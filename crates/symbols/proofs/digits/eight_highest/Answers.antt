use Rattle.std.proofs.Common.{sym, ◌∙◌}
use Rattle.symbols.proofs.Addresses.{highest_is}
use Rattle.symbols.proofs.digits.eight_highest.Goals as goal

pub returns-then-starts_with : goal.returns-then-starts_with
returns-then-starts_with c = highest_is c.args.text.now c.requires (sym c.starts_with.ensures.value ∙ c.if-starts_with.true)
