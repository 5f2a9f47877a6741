-- Tables that grow by further formats.
use Rattle.std.proofs.Common.{◌≡◌, ℕ, ◌+◌, ◌<◌, ◌≤◌, Bool, true, List, [], ◌∷◌, ◌++◌, length, drop, get_or, Option, Some, None, if◌then◌else◌, not, refl, sym, ap, ◌∙◌, inl, inr}
use Rattle.std.specs.List.{list_any, cons_option}
use Rattle.std.specs.Option.{option_or}
use Rattle.std.proofs.lemmas.Bool.{cases_Bool, eqb-true}
use Rattle.std.proofs.lemmas.List.{at_drop_more, at_drop_all}
use Rattle.format_parse.specs.declared.format.EventFormat.{EventFormat}
use Rattle.format_parse.specs.Format.{format_of}
use Rattle.format_parse.specs.Table.{has_id, formats_in, with_format, with_option, with_formats, format_at, TableLaws}

pub parts : (table formats others : List EventFormat) → with_formats (with_formats table formats) others ≡ with_formats table (formats ++ others)
unfolding with_formats
parts table [] others = refl
parts table (format ∷ formats) others = parts (with_format table format) formats others

-- what is found in a table with a further format
only : ℕ → EventFormat → Option EventFormat
only id format = if has_id id format then Some format else None

behind : (id : ℕ) (table : List EventFormat) (format : EventFormat) → format_at id (table ++ format ∷ []) ≡ option_or (format_at id table) (only id format)
unfolding only
behind id [] format = refl
behind id (one ∷ table) format = elim (cases_Bool (has_id id one)) as (λ _. format_at id ((one ∷ table) ++ format ∷ []) ≡ option_or (format_at id (one ∷ table)) (if has_id id format then Some format else None)) [
  | inl here ↦ rw here refl
  | inr other ↦ rw other (behind id table format)
]

there : (id : ℕ) (table : List EventFormat) (other : Option EventFormat) → list_any (has_id id) table ≡ true → option_or (format_at id table) other ≡ format_at id table
there id [] other any = absurd cc
there id (one ∷ table) other any = elim (cases_Bool (has_id id one)) as (λ _. option_or (format_at id (one ∷ table)) other ≡ format_at id (one ∷ table)) [
  | inl here ↦ rw here refl
  | inr apart ↦ rw apart (there id table other (rw apart at any))
]

none_more : (o : Option EventFormat) → option_or o None ≡ o
none_more None = refl
none_more (Some format) = refl

found_with : (id : ℕ) (table : List EventFormat) (format : EventFormat) → format_at id (with_format table format) ≡ option_or (format_at id table) (only id format)
unfolding only
found_with id table format = elim (cases_Bool (list_any (has_id format.id) table)) as (λ _. format_at id (with_format table format) ≡ option_or (format_at id table) (if has_id id format then Some format else None)) [
  | inr new ↦ rw new (behind id table format)
  | inl old ↦ rw old (elim (cases_Bool (has_id id format)) as (λ _. format_at id table ≡ option_or (format_at id table) (if has_id id format then Some format else None)) [
    | inl same ↦ rw same (sym (there id table (Some format) (ap (λ (n : ℕ). list_any (has_id n) table) (eqb-true id format.id same) ∙ old)))
    | inr apart ↦ rw apart (sym (none_more (format_at id table)))
  ])
]

or_next : (id : ℕ) (o : Option EventFormat) (format : EventFormat) (formats : List EventFormat) → option_or (option_or o (only id format)) (format_at id formats) ≡ option_or o (format_at id (format ∷ formats))
unfolding only
or_next id (Some one) format formats = refl
or_next id None format formats = elim (cases_Bool (has_id id format)) as (λ _. option_or (if has_id id format then Some format else None) (format_at id formats) ≡ format_at id (format ∷ formats)) [
  | inl here ↦ rw here refl
  | inr other ↦ rw other refl
]

found_all : (id : ℕ) (table formats : List EventFormat) → format_at id (with_formats table formats) ≡ option_or (format_at id table) (format_at id formats)
unfolding with_formats
found_all id table [] = sym (none_more (format_at id table))
found_all id table (format ∷ formats) =
    found_all id (with_format table format) formats
    ∙ ap (λ (o : Option EventFormat). option_or o (format_at id formats)) (found_with id table format)
    ∙ or_next id (format_at id table) format formats

pub laws : TableLaws
laws = record {
  first = λ formats id. found_all id [] formats;
  parts = parts;
}

-- a loop over texts
one_more : (table : List EventFormat) (o : Option EventFormat) (formats : List EventFormat) → with_formats (with_option table o) formats ≡ with_formats table (cons_option o formats)
unfolding with_formats
one_more table None formats = refl
one_more table (Some format) formats = refl

pub text_more : (system : List ℕ) (texts : List (List ℕ)) (table now whole : List EventFormat) (i : ℕ) (d : List ℕ) → i < length texts → now ≡ with_option table (format_of system (get_or texts i d))
    → with_formats table (formats_in system (drop i texts)) ≡ whole → with_formats now (formats_in system (drop (i + 1) texts)) ≡ whole
text_more system texts table now whole i d inside put before =
    ap (λ (l : List EventFormat). with_formats l (formats_in system (drop (i + 1) texts))) put
    ∙ one_more table (format_of system (get_or texts i d)) (formats_in system (drop (i + 1) texts))
    ∙ sym (at_drop_more (λ (l : List (List ℕ)). with_formats table (formats_in system l)) texts i d inside) ∙ before

pub all_read : (system : List ℕ) (texts : List (List ℕ)) (table whole : List EventFormat) (i : ℕ) → length texts ≤ i → with_formats table (formats_in system (drop i texts)) ≡ whole → table ≡ whole
unfolding with_formats
all_read system texts table whole i le before = sym (at_drop_all (λ (l : List (List ℕ)). with_formats table (formats_in system l)) texts i le) ∙ before

-- one format is put unless its id is there
pub put_one : (table now : List EventFormat) (format : EventFormat) (o : Option EventFormat) (added : Bool) → Some format ≡ o → added ≡ not (list_any (has_id format.id) table) → now ≡ (if added then table ++ format ∷ [] else table) → now ≡ with_option table o
put_one table now format o added some is put = put ∙ one ∙ ap (with_option table) some
  where
    one : (if added then table ++ format ∷ [] else table) ≡ with_format table format
    one = elim (cases_Bool (list_any (has_id format.id) table)) as (λ _. (if added then table ++ format ∷ [] else table) ≡ with_format table format) [
      | inl old ↦ rw (is, old) refl
      | inr new ↦ rw (is, new) refl
    ]

pub put_none : (table : List EventFormat) (o : Option EventFormat) → None ≡ o → table ≡ with_option table o
put_none table o none = ap (with_option table) none
