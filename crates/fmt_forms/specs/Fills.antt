-- The bytes that fill a width or a precision.
use Rattle.std.specs.Prelude.{ℕ}
use Rattle.fmt_forms.specs.declared.repeat.Fill.{Fill}
use Rattle.fmt_forms.specs.declared.repeat.Fill.TheVariants.{Space, Zero}

abbrev pub fill_byte : Fill → ℕ
fill_byte Space = 32
fill_byte Zero = 48
