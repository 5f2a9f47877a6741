use Rattle.symbols.proofs.Addresses.{full_is}
use Rattle.symbols.proofs.digits.high_address.Goals as goal

pub returns : goal.returns
returns c =
    let parts = c.in_ok-high.ensures in
    full_is c.args.text.now _ _ _ c.in_ok-high-2.high c.in_ok-low.low parts.inside parts.space parts.high parts.low parts.rest c.in_ok-high-2.ensures c.in_ok-low.ensures
