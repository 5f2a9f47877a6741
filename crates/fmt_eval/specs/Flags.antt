-- The texts of `__print_flags` and `__print_symbolic` (Documentation/trace/events.rst, and the kernel's trace_output.c, whose output it describes).
use Rattle.std.specs.Prelude.{ℕ, Bool, true, false, not, ◌&&◌, ◌==◌, if◌then◌else◌, List, [], ◌∷◌, bit_and}
use Rattle.std.specs.Int.{w64, bit_not}
use Rattle.fmt_eval.specs.Pieces.{join, join_behind, hexadecimal}

-- a mask or a value, and the text that is printed for it
abbrev pub Row : Type 0
Row = ℕ × List ℕ

-- Whether a mask is printed, by the value, what is left of it, and whether a piece was printed: its bits are
-- all left, or it is 0 and so is the value, and nothing was printed.
abbrev pub is_flag : ℕ → ℕ → Bool → ℕ → Bool
is_flag value left some mask = if mask == 0 then value == 0 && not some else bit_and left mask == mask

-- The pieces of the masks in order; each takes its bits away, and what is left at the end is one more.
abbrev pub flag_pieces : ℕ → ℕ → Bool → List Row → List (List ℕ)
flag_pieces value left some [] = if left == 0 then [] else hexadecimal left ∷ []
flag_pieces value left some (row ∷ rows) = if is_flag value left some row.0 then row.1 ∷ flag_pieces value (bit_and left (bit_not w64 row.0)) true rows else flag_pieces value left some rows

unfoldable pub flags_text : List ℕ → ℕ → List Row → List ℕ
flags_text between value rows = join between (flag_pieces value value false rows)

-- the text that is still to come
unfoldable pub flags_from : List ℕ → ℕ → ℕ → Bool → List Row → List ℕ
flags_from between value left some rows = join_behind some between (flag_pieces value left some rows)

-- the first text whose number is the value, or else the value in hexadecimal
abbrev pub symbol_text : ℕ → List Row → List ℕ
symbol_text value [] = hexadecimal value
symbol_text value (row ∷ rows) = if row.0 == value then row.1 else symbol_text value rows
