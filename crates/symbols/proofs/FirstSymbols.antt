-- The symbol of a text's first line, found without looking for the line's end first.
use Rattle.std.proofs.Common.{◌≡◌, ℕ, zero, suc, ◌+◌, ◌-◌, ◌<◌, inl, inr, Bool, true, false, not, eqb, codes, List, [], ◌∷◌, ◌++◌, length, take, drop, get_or, Option, None, Some, IfSome, refl, sym, ap, subst, ◌∙◌, append_assoc, arith}
use Rattle.std.proofs.lemmas.Bool.{cases_Bool, cases_lt, eqb-true, eq-eqb}
use Rattle.std.proofs.lemmas.List.{take-append-drop, at_drop_more, get_or-take, length-take}
use Rattle.std.proofs.lemmas.List.Sums.{list_all-from_AllPass}
use Rattle.std.proofs.lemmas.Grind.{get_or_default_zero}
use Rattle.std.specs.List.{list_all, onto_first}
use Rattle.std.specs.Char.{is_ascii_alphabetic}
use Rattle.memchr.specs.Find.{NoneBefore, Passes, TakesFirst, is_byte3, places, places_from}
use Rattle.text_lines.specs.Lines.{lines_of}
use Rattle.trace_base.specs.FieldReading.{after_word}
use Rattle.trace_base.proofs.FieldSteps.{both}
use Rattle.trace_base.proofs.FieldEntries.{after_is}
use Rattle.trace_base.proofs.FieldRuns as runs
use Rattle.symbols.specs.LineForms.{is_hexadecimal, in_name}
use Rattle.symbols.specs.Forms.{address_at, after_letter}
use Rattle.symbols.specs.Names.{EndsWith}
use Rattle.symbols.specs.FirstLine.{stays, IsNameLen, IsFirstSymbol}
use Rattle.symbols.proofs.Forms.{address_is, letter_is, outside_is, symbol_again}

-- bytes that end no line
abbrev pub apart : ℕ → Bool
apart byte = not (eqb byte 10)

passes_apart : (p : ℕ → Bool) → p 10 ≡ false → (byte : ℕ) → p byte ≡ true → apart byte ≡ true
passes_apart p never byte is = elim (cases_Bool (eqb byte 10)) as (λ _. apart byte ≡ true) [
  | inl same ↦ let clash : false ≡ true = sym never ∙ ap p (sym (eqb-true byte 10 same)) ∙ is in absurd cc
  | inr other ↦ rw other refl
]

all_pass : (p q : ℕ → Bool) → ((byte : ℕ) → p byte ≡ true → q byte ≡ true) → (text : List ℕ) → list_all p text ≡ true → list_all q text ≡ true
all_pass p q each [] all = refl
all_pass p q each (byte ∷ text) all = let parts = both (p byte) (list_all p text) all in rw (each byte parts.0) (all_pass p q each text parts.1)

-- bytes in front of a text stand in front of its first line
lines_behind : (front text back : List ℕ) (others : List (List ℕ)) → list_all apart front ≡ true → lines_of text ≡ back ∷ others → lines_of (front ++ text) ≡ (front ++ back) ∷ others
lines_behind [] text back others all split = split
lines_behind (byte ∷ front) text back others all split = elim (cases_Bool (eqb byte 10)) as (λ _. lines_of ((byte ∷ front) ++ text) ≡ ((byte ∷ front) ++ back) ∷ others) [
  | inl same ↦ let parts = both (apart byte) (list_all apart front) all in let clash : apart byte ≡ false = rw same refl in absurd (let never : true ≡ false = sym parts.0 ∙ clash in cc)
  | inr other ↦ let parts = both (apart byte) (list_all apart front) all in rw other (ap (onto_first byte) (lines_behind front text back others parts.1 split))
]

pub newline_front : (text : List ℕ) → 0 < length text → get_or text 0 0 ≡ 10 → lines_of text ≡ [] ∷ lines_of (drop 1 text)
newline_front [] some is = absurd (omega (arith, some))
newline_front (byte ∷ text) some is = rw (eq-eqb byte 10 is) refl

-- the line goes on with a byte that ends its name, or ends there
onto_begins : (byte : ℕ) (parts : List (List ℕ)) (back : List ℕ) (others : List (List ℕ)) → in_name byte ≡ false → onto_first byte parts ≡ back ∷ others → runs.BeginsOutside in_name back
onto_begins byte [] back others ends is = let same : byte ∷ [] ≡ back = cc in subst (runs.BeginsOutside in_name) same ends
onto_begins byte (part ∷ parts) back others ends is = let same : byte ∷ part ≡ back = cc in subst (runs.BeginsOutside in_name) same ends

name_ends : (byte : ℕ) (text back : List ℕ) (others : List (List ℕ)) → stays byte ≡ false → lines_of (byte ∷ text) ≡ back ∷ others → runs.BeginsOutside in_name back
name_ends byte text back others ends split = elim (cases_Bool (eqb byte 10)) as (λ _. runs.BeginsOutside in_name back) [
  | inl same ↦ let here : [] ∷ lines_of text ≡ back ∷ others = rw same at split in let none : [] ≡ back = cc in subst (runs.BeginsOutside in_name) none tt
  | inr other ↦
      let here : onto_first byte (lines_of text) ≡ back ∷ others = rw other at split in
      let outside : in_name byte ≡ false = elim (cases_Bool (in_name byte)) as (λ _. in_name byte ≡ false) [
        | inl named ↦ let clash : stays byte ≡ true = rw (named, other) refl in absurd (let never : true ≡ false = sym clash ∙ ends in cc)
        | inr none ↦ none
      ] in
      onto_begins byte (lines_of text) back others outside here
]

-- a search for what ends a name
is_end : (byte : ℕ) → is_byte3 9 32 10 byte ≡ true → stays byte ≡ false
is_end byte is = elim (cases_Bool (eqb byte 9)) as (λ _. stays byte ≡ false) [
  | inl tab ↦ rw tab refl
  | inr other ↦ elim (cases_Bool (eqb byte 32)) as (λ _. stays byte ≡ false) [
    | inl space ↦ rw (other, space) refl
    | inr none ↦ elim (cases_Bool (eqb byte 10)) as (λ _. stays byte ≡ false) [
      | inl newline ↦ rw (other, none, newline) refl
      | inr never ↦ let clash : is_byte3 9 32 10 byte ≡ false = rw (other, none, never) refl in absurd (let no : true ≡ false = sym is ∙ clash in cc)
    ]
  ]
]

is_in : (byte : ℕ) → (is_byte3 9 32 10 byte ≡ true → ⊥) → stays byte ≡ true
is_in byte other = elim (cases_Bool (eqb byte 9)) as (λ _. stays byte ≡ true) [
  | inl tab ↦ absurd (other (rw tab refl))
  | inr one ↦ elim (cases_Bool (eqb byte 32)) as (λ _. stays byte ≡ true) [
    | inl space ↦ absurd (other (rw (one, space) refl))
    | inr two ↦ elim (cases_Bool (eqb byte 10)) as (λ _. stays byte ≡ true) [
      | inl newline ↦ absurd (other (rw (one, two, newline) refl))
      | inr three ↦ rw (one, two, three) refl
    ]
  ]
]

-- the first of the places is the first place
first_place : (test : ℕ → Bool) (hay : List ℕ) (i n at : ℕ) (later : List ℕ) → places_from test hay i n ≡ at ∷ later → NoneBefore (Passes test hay) i (i + n) at × Passes test hay at
unfolding places_from
first_place test hay i zero at later is = absurd cc
first_place test hay i (suc n) at later is = elim (cases_Bool (test (get_or hay i 0))) as (λ _. NoneBefore (Passes test hay) i (i + suc n) at × Passes test hay at) [
  | inl here ↦
      let found : i ∷ places_from test hay (i + 1) n ≡ at ∷ later = rw here at is in
      let same : i ≡ at = cc in (
        record { low = omega (arith, same); high = omega (arith, same); before = λ k from less. absurd (omega (arith, same, from, less)) },
        subst (Passes test hay) same here,
      )
  | inr other ↦
      let found : places_from test hay (i + 1) n ≡ at ∷ later = rw other at is in
      let far = first_place test hay (i + 1) n at later found in (
        record {
          low = omega (arith, far.0.low);
          high = omega (arith, far.0.high);
          before = λ k from less passes. elim (cases_lt i k) [
            | inl past ↦ far.0.before k (omega (arith, past)) less passes
            | inr near ↦ let same : k ≡ i = omega (arith, from, near) in absurd (let clash : true ≡ false = sym passes ∙ ap (λ (j : ℕ). test (get_or hay j 0)) same ∙ other in cc)
          ];
        },
        far.1,
      )
]

pub name_len_is : (text : List ℕ) (old new : List ℕ) (at : Option ℕ) → old ≡ places (is_byte3 9 32 10) text → TakesFirst old at new → IfSome at (IsNameLen text)
name_len_is text old new None is takes = tt
name_len_is text old new (Some len) is takes =
    let test = is_byte3 9 32 10 in
    let whole : length text - 0 ≡ length text = omega arith in
    let found = first_place test text 0 (length text) len new (subst (λ (n : ℕ). places_from test text 0 n ≡ len ∷ new) whole (sym is ∙ takes)) in
    record {
      inside = omega (arith, found.0.high);
      name = list_all-from_AllPass stays (take len text) (λ k d less.
          let below : k < len = omega (arith, less, length-take len text) in
          let there : k < length text = omega (arith, below, found.0.high) in
          subst (λ (byte : ℕ). stays byte ≡ true) (sym (get_or-take len text k d below ∙ default text k d there)) (is_in (get_or text k 0) (found.0.before k (omega arith) below)));
      ends = is_end (get_or text len 0) found.1;
    }
  where
    default : (xs : List ℕ) (k d : ℕ) → k < length xs → get_or xs k d ≡ get_or xs k 0
    default xs k d less = grind (arith, get_or_default_zero)

-- a text ends with what follows the letter
pub symbol_ends : (text rest spaced from : List ℕ) (key : ℕ) → Some (key, rest) ≡ address_at text → Some spaced ≡ after_word (codes " ") rest → Some from ≡ after_letter spaced → EndsWith text from
symbol_ends text rest spaced from key address space letter =
    let taken = address_is text rest key (sym address) in
    let lettered = letter_is spaced from (sym letter) in (
      taken.digits ++ (codes " " ++ (lettered.0 ∷ codes " ")),
      taken.whole ∙ ap (λ (l : List ℕ). taken.digits ++ l) (after_is (codes " ") rest spaced (sym space) ∙ ap (λ (l : List ℕ). codes " " ++ l) lettered.1)
          ∙ sym (append_assoc taken.digits (codes " " ++ (lettered.0 ∷ codes " ")) from),
    )

-- the whole
pub first_is : (text rest spaced from back : List ℕ) (key len : ℕ) (others : List (List ℕ)) → Some (key, rest) ≡ address_at text → Some spaced ≡ after_word (codes " ") rest → Some from ≡ after_letter spaced
    → IsNameLen from len → lines_of (drop len from) ≡ back ∷ others → IsFirstSymbol text key from len others
first_is text rest spaced from back key len others address space letter named split =
    let taken = address_is text rest key (sym address) in
    let lettered = letter_is spaced from (sym letter) in
    let name = take len from in
    let parted : from ≡ name ++ drop len from = sym (take-append-drop len from) in
    let spaced_is : rest ≡ codes " " ++ spaced = after_is (codes " ") rest spaced (sym space) in
    let whole : text ≡ taken.digits ++ (codes " " ++ (lettered.0 ∷ (codes " " ++ from))) =
    taken.whole ∙ ap (λ (l : List ℕ). taken.digits ++ l) (spaced_is ∙ ap (λ (l : List ℕ). codes " " ++ l) lettered.1) in
    let left : drop len from ≡ get_or from len 0 ∷ drop (len + 1) from = at_drop_more (λ (l : List ℕ). l) from len 0 named.inside in
    let outside : runs.BeginsOutside in_name back = name_ends (get_or from len 0) (drop (len + 1) from) back others named.ends (ap lines_of (sym left) ∙ split) in
    let kept : (byte : ℕ) → stays byte ≡ true → (in_name byte ≡ true) × (apart byte ≡ true) = λ byte is. both (in_name byte) (apart byte) is in
    let line = taken.digits ++ (codes " " ++ (lettered.0 ∷ (codes " " ++ (name ++ back)))) in
    let named_lines : lines_of from ≡ (name ++ back) ∷ others =
    ap lines_of parted ∙ lines_behind name (drop len from) back others (all_pass stays apart (λ byte is. (kept byte is).1) name named.name) split in
    let letter_apart : list_all apart (codes " " ++ (lettered.0 ∷ codes " ")) ≡ true = rw (passes_apart is_ascii_alphabetic refl lettered.0 lettered.2) refl in
    let lines : lines_of (taken.digits ++ (codes " " ++ (lettered.0 ∷ (codes " " ++ from)))) ≡ line ∷ others =
    lines_behind taken.digits (codes " " ++ (lettered.0 ∷ (codes " " ++ from))) (codes " " ++ (lettered.0 ∷ (codes " " ++ (name ++ back)))) others (all_pass is_hexadecimal apart (passes_apart is_hexadecimal refl) taken.digits taken.is.digit)
    (lines_behind (codes " " ++ (lettered.0 ∷ codes " ")) from (name ++ back) others letter_apart named_lines) in
    record {
      line = line;
      split = ap lines_of whole ∙ lines;
      is = symbol_again line (key, name) (record {
        digits = taken.digits;
        letter = lettered.0;
        behind = back;
        whole = refl;
        address_is = taken.is;
        letter_is = lettered.2;
        name_is = all_pass stays in_name (λ byte is. (kept byte is).0) name named.name;
        name_ends = outside_is in_name back outside;
      });
      inside = named.inside;
      ends = symbol_ends text rest spaced from key address space letter;
    }
