-- What functions return, as plain data.
use Rattle.std.specs.Prelude.{ℕ}
use Rattle.fmt_literal.specs.declared.ckind.CKind.{CKind}
use Rattle.fmt_literal.specs.declared.numeral.Numeral.{Numeral}
use Rattle.fmt_literal.specs.declared.escape.Spelled.{Spelled}
use Rattle.fmt_literal.specs.Escape.{Item, spelled}

abbrev pub numeral_view : Numeral → ℕ × CKind
numeral_view n = (n.bits, n.kind)

abbrev pub item_view : Spelled → Item
item_view s = spelled s.byte s.len
