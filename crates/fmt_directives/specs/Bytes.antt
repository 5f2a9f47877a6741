-- Bytes of a format text, by what they may stand for.
use Rattle.std.specs.Prelude.{◌≡◌, ℕ, ◌<◌, Bool, false, not, ◌&&◌, ◌||◌, nat_le, ◌==◌, List, length, slice_index}
use Rattle.std.specs.Char.{is_ascii_alphanumeric}

-- `-`, `0`, `+`, space and `#`
abbrev pub is_flag : ℕ → Bool
is_flag b = (((b == 45 || b == 48) || b == 43) || b == 32) || b == 35

abbrev pub is_decimal : ℕ → Bool
is_decimal b = nat_le 48 b && nat_le b 57

abbrev pub is_alphanumeric : ℕ → Bool
is_alphanumeric b = is_ascii_alphanumeric b

-- every byte but the percent sign stands for itself
abbrev pub is_plain : ℕ → Bool
is_plain b = not (b == 37)

-- the text is empty, or its first byte does not pass
abbrev pub BeginsOutside : (ℕ → Bool) → List ℕ → Type 0
BeginsOutside test text = 0 < length text → test (slice_index text 0) ≡ false
