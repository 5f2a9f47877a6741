-- The formats of a file, by their ids.
-- Source: trace-cmd.dat.v6(5), where the formats of ftrace's own events come before those of the event systems.
use Rattle.std.specs.Prelude.{◌≡◌, ℕ, Bool, if◌then◌else◌, List, [], ◌∷◌, ◌++◌, map, nat_eq, Option, Some, None}
use Rattle.std.specs.List.{IsDistinct, list_any, filter_map}
use Rattle.std.specs.Str.{bytes_eq}
use Rattle.format_parse.specs.declared.format.EventFormat.{EventFormat}
use Rattle.format_parse.specs.Format.{format_of}

abbrev pub has_id : ℕ → EventFormat → Bool
has_id id format = nat_eq id format.id

abbrev pub has_name : List ℕ → EventFormat → Bool
has_name name format = bytes_eq format.name name

-- no two have one id
abbrev pub IdsDiffer : List EventFormat → Type 0
IdsDiffer formats = IsDistinct nat_eq (map (λ f. f.id) formats)

-- the formats that texts of a system spell, without those that are unread
abbrev pub formats_in : List ℕ → List (List ℕ) → List EventFormat
formats_in system texts = filter_map (format_of system) texts

-- the table with a further format, unless its id is there already
abbrev pub with_format : List EventFormat → EventFormat → List EventFormat
with_format table format = if list_any (has_id format.id) table then table else table ++ format ∷ []

abbrev pub with_option : List EventFormat → Option EventFormat → List EventFormat
with_option table None = table
with_option table (Some format) = with_format table format

-- the table with further formats, one after another
unfoldable pub with_formats : List EventFormat → List EventFormat → List EventFormat
with_formats table [] = table
with_formats table (format ∷ formats) = with_formats (with_format table format) formats

-- the first format with this id
abbrev pub format_at : ℕ → List EventFormat → Option EventFormat
format_at id [] = None
format_at id (format ∷ formats) = if has_id id format then Some format else format_at id formats

-- A table finds for each id the first of the formats that it was made of, and formats may be put in parts.
pub record TableLaws : Type 0 where
  pub first : (formats : List EventFormat) (id : ℕ) → format_at id (with_formats [] formats) ≡ format_at id formats
  pub parts : (table formats others : List EventFormat) → with_formats (with_formats table formats) others ≡ with_formats table (formats ++ others)
