-- The lines of a text, as the texts inside a trace file have them. A newline ends a line; a carriage return is a byte of its line.
-- Source: the kernel's Documentation/trace/events.rst, 'Event formats', and the files of tracefs that trace-cmd.dat.v6(5)
-- stores (/proc/kallsyms, printk_formats, saved_cmdlines), all of one entry a line.
use Rattle.std.specs.Prelude.{ℕ, ◌-◌, ◌==◌, if◌then◌else◌, List, [], ◌∷◌, length, slice_get, codes, Option, Some, None}
use Rattle.std.specs.List.{slice_split}
use Rattle.std.specs.Option.{option_or}
use Rattle.trace_base.specs.FieldReading.{after_word}
use denote.Ref.{Bor}

-- the lines of a text, split at newlines; the last of them is what no newline ends, and may be empty
abbrev pub lines_of : List ℕ → List (List ℕ)
lines_of text = slice_split (λ byte. byte == 10) text

-- the lines of what is left of a text, if anything is
abbrev pub lines_left : Option (Bor (List ℕ)) → List (List ℕ)
lines_left None = []
lines_left (Some text) = lines_of text.now

-- the rest of the first line that begins with the word
abbrev pub first_after : List ℕ → List (List ℕ) → Option (List ℕ)
first_after word [] = None
first_after word (line ∷ lines) = option_or (after_word word line) (first_after word lines)

abbrev pub behind_last : Option ℕ → List ℕ
behind_last None = []
behind_last (Some byte) = if byte == 10 then [] else codes "\n"

-- what ends a stored text where further lines follow: a newline, where it is not empty and does not end in one
abbrev pub line_end : List ℕ → List ℕ
line_end text = behind_last (slice_get text (length text - 1))
