-- Types in brackets: names, then `*`.
use Rattle.std.specs.Prelude.{ℕ, zero, suc, ◌+◌, Bool, false, not, nat_lt, List, [], ◌∷◌, ◌++◌, drop, option_and_then, Option, Some, None, bytes_eq, codes, if◌then◌else◌}
use Rattle.std.specs.List.{prefix_len}
use Rattle.fmt_lexer.specs.declared.token.Token.{Token}
use Rattle.fmt_lexer.specs.Tokens.{bytes_of}
use Rattle.fmt_literal.specs.Types.{is_qualifier}
use Rattle.fmt_expr.specs.Source.{Source, as_mark, as_name, name_at, is_text, is_mark}

abbrev pub is_type_name : Option (List ℕ) → Bool
is_type_name None = false
is_type_name (Some name) = not (bytes_eq name (codes "REC"))

-- a token that may be a name of a type, or its star
abbrev pub is_type_word : List ℕ → Token → Bool
is_type_word text t = is_type_name (as_name t.kind (bytes_of text t))

abbrev pub is_star : List ℕ → Token → Bool
is_star text t = is_text (as_mark t.kind (bytes_of text t)) (codes "*")

-- how many names, or stars, stand from a place on
unfoldable pub names_len : Source → ℕ → ℕ
names_len s i = prefix_len (is_type_word s.text) (drop i s.tokens)

unfoldable pub stars_len : Source → ℕ → ℕ
stars_len s i = prefix_len (is_star s.text) (drop i s.tokens)

-- a name with a blank before it, unless it is a qualifier
abbrev pub spaced : Option (List ℕ) → List ℕ
spaced (Some name) = if is_qualifier name then [] else 32 ∷ name
spaced None = []

-- so many names from a place on
unfoldable pub spaced_names : Source → ℕ → ℕ → List ℕ
spaced_names s zero i = []
spaced_names s (suc n) i = spaced (name_at s i) ++ spaced_names s n (i + 1)

-- so many names from a place on, joined by one blank, without qualifiers
abbrev pub words_at : Source → ℕ → ℕ → List ℕ
words_at s i names = drop 1 (spaced_names s names i)

-- a type: its words and its stars, and the place after it
pub record TypeName : Type 0 where
  pub words : List ℕ
  pub stars : ℕ
  pub next : ℕ

abbrev pub type_name : List ℕ → ℕ → ℕ → TypeName
type_name words stars next = record { words = words; stars = stars; next = next }

unfoldable pub type_at : Source → ℕ → Option TypeName
type_at s i =
    let names = names_len s i in
    let stars = stars_len s (i + names) in
    if nat_lt 0 names then Some (type_name (words_at s i names) stars (i + names + stars)) else None

-- the type at a place that a bracket closes
abbrev pub if_closed : Source → TypeName → Option TypeName
if_closed s t = if is_mark s t.next (codes ")") then Some t else None

unfoldable pub closed_type : Source → ℕ → Option TypeName
closed_type s i = option_and_then (if_closed s) (type_at s i)
