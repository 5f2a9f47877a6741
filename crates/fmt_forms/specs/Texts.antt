-- Texts in their width and precision (C11 7.21.6.1).
use Rattle.std.specs.Prelude.{ℕ, ◌-◌, Bool, if◌then◌else◌, List, ◌++◌, length, take, replicate, Option, Some, None}

-- a text in its width, with spaces
unfoldable pub padded : Bool → ℕ → List ℕ → List ℕ
padded left width text = if left then text ++ replicate (width - length text) 32 else replicate (width - length text) 32 ++ text

-- as much as a precision shows
abbrev pub cut_to : Option ℕ → List ℕ → List ℕ
cut_to None text = text
cut_to (Some p) text = take p text
