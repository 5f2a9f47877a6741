-- The formats of a file, one system after another.
use Rattle.std.proofs.Common.{◌≡◌, ℕ, ◌+◌, ◌<◌, ◌≤◌, List, [], ◌++◌, length, drop, get_or, sym, ap, ◌∙◌}
use Rattle.std.specs.List.{flat_map}
use Rattle.std.proofs.lemmas.List.{at_drop_more, at_drop_all}
use Rattle.dat_header.specs.declared.header.System.{System}
use Rattle.format_parse.specs.declared.format.EventFormat.{EventFormat}
use Rattle.format_parse.specs.Table.{formats_in, with_formats}
use Rattle.format_parse.proofs.Tables.{parts}

abbrev pub system_formats : System → List EventFormat
system_formats system = formats_in system.name system.formats

-- the formats of ftrace's own events, in an empty table
pub formats_begun : (table first rest none : List EventFormat) → none ≡ [] → table ≡ with_formats none first → with_formats table rest ≡ with_formats [] (first ++ rest)
formats_begun table first rest none is put =
    ap (λ (t : List EventFormat). with_formats t rest) (put ∙ ap (λ (n : List EventFormat). with_formats n first) is) ∙ parts [] first rest

-- those of one more system
pub formats_more : (systems : List System) (table now whole : List EventFormat) (i : ℕ) (d : System) → i < length systems
    → now ≡ with_formats table (system_formats d) → d ≡ get_or systems i d
    → with_formats table (flat_map system_formats (drop i systems)) ≡ whole → with_formats now (flat_map system_formats (drop (i + 1) systems)) ≡ whole
formats_more systems table now whole i d inside put is before =
    ap (λ (t : List EventFormat). with_formats t (flat_map system_formats (drop (i + 1) systems)))
    (put ∙ ap (λ (system : System). with_formats table (system_formats system)) is)
    ∙ parts table (system_formats (get_or systems i d)) (flat_map system_formats (drop (i + 1) systems))
    ∙ ap (with_formats table) (sym (at_drop_more (flat_map system_formats) systems i d inside)) ∙ before

-- those of all systems
pub formats_all : (systems : List System) (table whole : List EventFormat) (i : ℕ) → length systems ≤ i
    → with_formats table (flat_map system_formats (drop i systems)) ≡ whole → table ≡ whole
unfolding with_formats
formats_all systems table whole i all before = sym (at_drop_all (λ (rest : List System). with_formats table (flat_map system_formats rest)) systems i all) ∙ before
