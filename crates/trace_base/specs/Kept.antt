-- Text that goes into a room of fixed length: what is kept of it, and what is told of it.
use Rattle.std.specs.Prelude.{ℕ, ◌+◌, ◌-◌, ◌^◌, Bool, true, false, not, ◌==◌, nat_lt, if◌then◌else◌, min, List, [], ◌++◌, length, take, Option, None, Some}
use Rattle.std.specs.List.{last_or, prefix_len}
use Rattle.std.specs.Option.{option_or}

-- the greatest length that is told
abbrev pub most : ℕ
most = 2 ^ 64 - 1

-- The first bytes of what was put, as far as there is room, and how many were put. Since the last cut: the
-- last byte, and, where the text is watched for it, the place of the first NUL.
pub record Kept : Type 0 where
  pub room : ℕ
  pub bytes : List ℕ
  pub total : ℕ
  pub last : Option ℕ
  pub watches : Bool
  pub nul : Option ℕ

-- nothing was put yet
abbrev pub nothing : ℕ → Kept
nothing room = record { room = room; bytes = []; total = 0; last = None; watches = false; nul = None }

abbrev pub is_letter : ℕ → Bool
is_letter byte = not (byte == 0)

-- a text up to its first NUL
abbrev pub until_nul : List ℕ → List ℕ
until_nul text = take (prefix_len is_letter text) text

-- the place of the first NUL of a piece that is put after so many bytes
abbrev pub nul_in : ℕ → List ℕ → Option ℕ
nul_in total piece = if nat_lt (prefix_len is_letter piece) (length piece) then Some (min (total + prefix_len is_letter piece) most) else None

-- the place of the first NUL after a further piece, where the text is watched for it
abbrev pub nul_after : Bool → Option ℕ → ℕ → List ℕ → Option ℕ
nul_after watches nul total piece = if watches then option_or nul (nul_in total piece) else nul

-- where a text that is watched ends: at its first NUL, or else where all ends
abbrev pub end_or : Option ℕ → ℕ → ℕ
end_or None total = total
end_or (Some place) total = place

abbrev pub text_end : Kept → ℕ
text_end kept = end_or kept.nul kept.total

-- a further piece
unfoldable pub put : Kept → List ℕ → Kept
put kept piece = record { room = kept.room; bytes = take kept.room (kept.bytes ++ piece); total = min (kept.total + length piece) most; last = last_or kept.last piece; watches = kept.watches; nul = nul_after kept.watches kept.nul kept.total piece }

-- only the first of what was put count
abbrev pub cut : Kept → ℕ → Kept
cut kept to = record { room = kept.room; bytes = take to kept.bytes; total = to; last = None; watches = false; nul = None }

-- what is put from now on is watched for its first NUL
abbrev pub watched : Kept → Kept
watched kept = record { room = kept.room; bytes = kept.bytes; total = kept.total; last = kept.last; watches = true; nul = None }

-- what is kept and told of a text
abbrev pub of_text : ℕ → List ℕ → Kept
of_text room text = record { room = room; bytes = take room text; total = min (length text) most; last = last_or None text; watches = false; nul = None }

-- What stays true through cuts: the bytes and their number.
pub record Held : Type 0 where
  pub room : ℕ
  pub bytes : List ℕ
  pub total : ℕ

abbrev pub held_of : Kept → Held
held_of kept = record { room = kept.room; bytes = kept.bytes; total = kept.total }

unfoldable pub put_held : Held → List ℕ → Held
put_held held piece = record { room = held.room; bytes = take held.room (held.bytes ++ piece); total = min (held.total + length piece) most }
