-- The digits of a byte.
use Rattle.std.specs.Prelude.{ℕ, ◌/◌, ◌%◌, false, List, [], ◌∷◌}
use Rattle.std.specs.Fmt.{digit_glyph}

-- a byte as two lower hexadecimal digits
abbrev pub two_digits : ℕ → List ℕ
two_digits byte = digit_glyph false (byte / 16) ∷ digit_glyph false (byte % 16) ∷ []
