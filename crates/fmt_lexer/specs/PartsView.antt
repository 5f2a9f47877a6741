-- The parts of a number as plain data.
use Rattle.std.specs.Prelude.{ℕ, List}
use Rattle.fmt_lexer.specs.declared.number.Base.{Base}
use Rattle.fmt_lexer.specs.declared.number.NumberParts.{NumberParts}

abbrev pub parts_view : NumberParts → Base × List ℕ × List ℕ
parts_view p = (p.base, p.digits.now, p.suffix.now)
