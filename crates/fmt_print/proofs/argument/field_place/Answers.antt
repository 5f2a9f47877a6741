use Rattle.std.proofs.Common.{refl, arith}
use Rattle.fmt_print.proofs.KnownLemmas.{field_stands}
use Rattle.fmt_print.proofs.argument.field_place.Goals as goal

pub returns-in-Fixed : goal.returns-in-Fixed
returns-in-Fixed c = field_stands c.args.field.now _ c.in-Fixed.is (omega (arith, c.if-field-gt0.true)) refl refl
