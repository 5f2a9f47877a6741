-- The line that declares a field, in an event's format or in a header_page text: the declaration as C writes it, the place and
-- the size in bytes, and whether it has a sign.
-- Source: the kernel's Documentation/trace/events.rst, 'Event formats'.
use Rattle.std.specs.Prelude.{◌≡◌, ℕ, ◌-◌, ◌^◌, ◌<◌, ◌⊎◌, Bool, true, false, not, ◌&&◌, ◌==◌, nat_lt, if◌then◌else◌, List, [], ◌∷◌, ◌++◌, length, take, drop, slice_index, codes, Option, Some, None, unwrap_or}
use Rattle.std.specs.List.{list_all, prefix_len, suffix_len}
use Rattle.std.specs.Char.{is_ascii_digit, is_digit}
use Rattle.std.specs.Str.Parse.{digits_value}
use Rattle.byte_classes.specs.Bytes.{is_blank, is_word}

-- what the declaration says
pub record Declaration : Type 0 where
  pub name : List ℕ
  pub kind_text : List ℕ
  pub array : Bool
  pub count : ℕ

-- what the whole line says
pub record FieldData : Type 0 where
  pub declaration : Declaration
  pub offset : ℕ
  pub size : ℕ
  pub signed : Bool

-- an identifier of C
abbrev pub is_identifier : List ℕ → Bool
is_identifier text = nat_lt 0 (length text) && list_all is_word text && not (is_ascii_digit (slice_index text 0))

-- the text without the blanks that it begins with
abbrev pub skip_blanks : List ℕ → List ℕ
skip_blanks text = drop (prefix_len is_blank text) text

-- the text without the blanks at its ends
abbrev pub trimmed : List ℕ → List ℕ
trimmed text = let rest = skip_blanks text in take (length rest - suffix_len is_blank rest) rest

-- one decimal digit or more, and nothing else
abbrev pub is_decimal : List ℕ → Bool
is_decimal text = nat_lt 0 (length text) && list_all (λ byte. is_digit byte 10) text

-- the number that decimal digits write, where it is one of 32 bits
unfoldable pub decimal : List ℕ → Option ℕ
decimal text = if is_decimal text && nat_lt (digits_value 10 text) (2 ^ 32) then Some (digits_value 10 text) else None

-- the text is one without a last byte that passes
abbrev pub EndsOutside : (ℕ → Bool) → List ℕ → Type 0
EndsOutside test text = (front : List ℕ) (last : ℕ) → text ≡ front ++ last ∷ [] → test last ≡ false

-- the text ends in this identifier, and no byte of a word stands directly before it
pub record EndsInName (text before name : List ℕ) : Type 0 where
  pub whole : text ≡ before ++ name
  pub identifier : is_identifier name ≡ true
  pub apart : EndsOutside is_word before

-- a declaration that ends in the name
pub record IsPlain (text : List ℕ) (declaration : Declaration) : Type 0 where
  pub before : List ℕ
  pub named : EndsInName text before declaration.name
  pub kind_is : declaration.kind_text ≡ trimmed before
  pub array_is : declaration.array ≡ false
  pub count_is : declaration.count ≡ 0

-- a declaration with brackets after the name: of the places where an opening one could stand, the last one counts
pub record IsArray (text : List ℕ) (declaration : Declaration) : Type 0 where
  pub front : List ℕ
  pub inside : List ℕ
  pub whole : text ≡ front ++ (codes "[" ++ (inside ++ codes "]"))
  pub before : List ℕ
  pub named : EndsInName front before declaration.name
  pub last : (longer rest other name : List ℕ) → text ≡ longer ++ (codes "[" ++ rest) → length front < length longer → EndsInName longer other name → ⊥
  pub kind_is : declaration.kind_text ≡ trimmed before
  pub array_is : declaration.array ≡ true
  pub count_is : declaration.count ≡ unwrap_or (decimal inside) 0

abbrev pub Declares : List ℕ → Declaration → Type 0
Declares text declaration = IsPlain text declaration ⊎ IsArray text declaration

-- blanks, a word, a number and the semicolon that ends it
pub record IsEntry (word : List ℕ) (number : ℕ) (text : List ℕ) : Type 0 where
  pub blanks : List ℕ
  pub digits : List ℕ
  pub whole : text ≡ blanks ++ (word ++ (digits ++ codes ";"))
  pub blank : list_all is_blank blanks ≡ true
  pub number_is : decimal digits ≡ Some number

-- nothing, or a number that is 0 for a field without a sign
abbrev pub IsSign : Bool → List ℕ → Type 0
IsSign signed text = ((text ≡ []) × (signed ≡ false)) ⊎ ((number : ℕ) × IsEntry (codes "signed:") number text × (signed ≡ not (number == 0)))

-- the line declares the field
pub record IsFieldLine (line : List ℕ) (field : FieldData) : Type 0 where
  pub blanks : List ℕ
  pub declaration : List ℕ
  pub offset : List ℕ
  pub size : List ℕ
  pub sign : List ℕ
  pub whole : line ≡ blanks ++ (codes "field:" ++ (declaration ++ (codes ";" ++ (offset ++ (size ++ sign)))))
  pub blank : list_all is_blank blanks ≡ true
  pub no_semicolon : list_all (λ byte. not (byte == 59)) declaration ≡ true
  pub declares : Declares declaration field.declaration
  pub offset_is : IsEntry (codes "offset:") field.offset offset
  pub size_is : IsEntry (codes "size:") field.size size
  pub sign_is : IsSign field.signed sign

-- A line declares at most one field.
abbrev pub OneField : Type 0
OneField = (line : List ℕ) (field other : FieldData) → IsFieldLine line field → IsFieldLine line other → field ≡ other
