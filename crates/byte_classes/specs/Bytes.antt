-- The classes of bytes that texts are made of, by their ASCII codes.
use Rattle.std.specs.Prelude.{ℕ, Bool, ◌||◌, ◌==◌}
use Rattle.std.specs.Char.{is_ascii_alphanumeric}

-- space, tab, newline or carriage return
abbrev pub is_blank : ℕ → Bool
is_blank b = ((b == 32 || b == 9) || b == 10) || b == 13

-- a letter, a digit or `_`
abbrev pub is_word : ℕ → Bool
is_word b = is_ascii_alphanumeric b || b == 95
