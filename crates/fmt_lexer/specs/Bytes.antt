-- The quotation marks of a print fmt and the digits of its escapes, by their ASCII codes.
use Rattle.std.specs.Prelude.{ℕ, Bool, ◌&&◌, nat_le}

-- the quotation marks of letters and of texts, and the sign that begins an escape
abbrev pub apostrophe : ℕ
apostrophe = 39

abbrev pub quote : ℕ
quote = 34

abbrev pub backslash : ℕ
backslash = 92

-- a digit of an octal escape
abbrev pub is_octal : ℕ → Bool
is_octal b = nat_le 48 b && nat_le b 55
