-- The lines of a format text.
use Rattle.std.proofs.Common.{◌≡◌, ℕ, ◌<◌, ◌≤◌, Bool, true, false, not, eqb, List, [], ◌∷◌, ◌++◌, map, length, get_or, take, drop, codes, Option, Some, None, refl, sym, ap, ◌∙◌, append_assoc, arith, inl, inr}
use Rattle.std.specs.List.{cons_option, join_with_byte}
use Rattle.std.specs.Option.{option_map}
use Rattle.std.specs.Str.{bytes_eq}
use denote.Ref.{Bor}
use Rattle.std.proofs.lemmas.Bool.{cases_Bool, cases_lt, false≢true}
use Rattle.std.proofs.Math.Seq.{get_or-append_seam}
use Rattle.std.proofs.lemmas.List.{drop-append-le, get_or-take, take-append-le, length-take, append-nil}
use Rattle.std.proofs.lemmas.List.Folds.{list_all_at}
use Rattle.std.proofs.lemmas.Slice.Eq.{bytes_eq-Decides}
use Rattle.std.proofs.lemmas.List.Splits.{join_with_byte-slice_split}
use Rattle.trace_base.specs.FieldReading.{after_word, field_line}
use Rattle.trace_base.specs.FieldLine.{FieldData}
use Rattle.trace_base.specs.declared.field.Field.{Field}
use Rattle.text_lines.specs.Lines.{lines_of}
use Rattle.format_parse.specs.FieldKinds.{field_of}
use Rattle.format_parse.specs.Format.{field_data, print_text}

begins : List ℕ → Bool
begins line = bytes_eq (take 10 line) (codes "print fmt:")

long_enough : (line : List ℕ) → begins line ≡ true → 10 ≤ length line
unfolding begins
long_enough line is = omega (arith, length-take 10 line, ap length ((bytes_eq-Decides (take 10 line) (codes "print fmt:")).0 is))

drop_joined : (line : List ℕ) (others : List (List ℕ)) → 10 ≤ length line → drop 10 (join_with_byte 10 (line ∷ others)) ≡ join_with_byte 10 (drop 10 line ∷ others)
drop_joined line [] le = refl
drop_joined line (next ∷ others) le = drop-append-le 10 line (10 ∷ join_with_byte 10 (next ∷ others)) le

-- a newline is no byte of the word
no_newline : (k : ℕ) → k < 10 → get_or (codes "print fmt:") k 0 ≡ 10 → ⊥
no_newline k less is = false≢true (sym (list_all_at (λ (byte : ℕ). not (eqb byte 10)) (codes "print fmt:") k 0 less (ap (λ (byte : ℕ). not (eqb byte 10)) is)))

not_same : (text word : List ℕ) → (text ≡ word → ⊥) → bytes_eq text word ≡ false
not_same text word apart = elim (cases_Bool (bytes_eq text word)) as (λ _. bytes_eq text word ≡ false) [
  | inl same ↦ absurd (apart ((bytes_eq-Decides text word).0 same))
  | inr other ↦ other
]

begins_both : (line more : List ℕ) → begins (line ++ (10 ∷ more)) ≡ begins line
unfolding begins
begins_both line more = elim (cases_lt (length line) 10) as (λ _. begins (line ++ (10 ∷ more)) ≡ begins line) [
  | inr long ↦ ap (λ (text : List ℕ). bytes_eq text (codes "print fmt:")) (take-append-le 10 line (10 ∷ more) long)
  | inl short ↦
      let newline : get_or (take 10 (line ++ (10 ∷ more))) (length line) 0 ≡ 10 = get_or-take 10 (line ++ (10 ∷ more)) (length line) 0 short ∙ get_or-append_seam line 10 more 0 in
      let one = not_same (take 10 (line ++ (10 ∷ more))) (codes "print fmt:") (λ same. no_newline (length line) short (ap (λ (text : List ℕ). get_or text (length line) 0) (sym same) ∙ newline)) in
      let two = not_same (take 10 line) (codes "print fmt:") (λ same. omega (arith, short, length-take 10 line, ap length same)) in
      one ∙ sym two
]

begins_joined : (line : List ℕ) (others : List (List ℕ)) → begins (join_with_byte 10 (line ∷ others)) ≡ begins line
begins_joined line [] = refl
begins_joined line (next ∷ others) = begins_both line (join_with_byte 10 (next ∷ others))

joined : (text : List ℕ) (lines : List (List ℕ)) → lines_of text ≡ lines → text ≡ join_with_byte 10 lines
joined text lines split = sym (join_with_byte-slice_split 10 text) ∙ ap (join_with_byte 10) split

-- a text begins with the word just where its first line does
begins_first : (text line : List ℕ) (others : List (List ℕ)) → lines_of text ≡ line ∷ others → begins text ≡ begins line
begins_first text line others split = ap begins (joined text (line ∷ others) split) ∙ begins_joined line others

after_here : (line : List ℕ) → begins line ≡ true → after_word (codes "print fmt:") line ≡ Some (drop 10 line)
unfolding after_word begins
after_here line is = rw is refl

after_not : (line : List ℕ) → begins line ≡ false → after_word (codes "print fmt:") line ≡ None
unfolding after_word begins
after_not line is = rw is refl

-- what follows the word in a text
starts : (text rest : List ℕ) → Some rest ≡ after_word (codes "print fmt:") text → (begins text ≡ true) × (rest ≡ drop 10 text)
unfolding after_word begins
starts text rest is = elim (cases_Bool (bytes_eq (take 10 text) (codes "print fmt:"))) as (λ _. (begins text ≡ true) × (rest ≡ drop 10 text)) [
  | inr none ↦ let never : Some rest ≡ None = rw none at is in absurd cc
  | inl there ↦ let same : Some rest ≡ Some (drop 10 text) = rw there at is in (there, cc)
]

not_starts : (text : List ℕ) → None ≡ after_word (codes "print fmt:") text → begins text ≡ false
unfolding after_word begins
not_starts text is = elim (cases_Bool (bytes_eq (take 10 text) (codes "print fmt:"))) as (λ _. begins text ≡ false) [
  | inr none ↦ none
  | inl there ↦ let never : None ≡ Some (drop 10 text) = rw there at is in absurd cc
]

no_lines : (text : List ℕ) → lines_of text ≡ [] → begins text ≡ true → ⊥
no_lines text split is = let long : 10 ≤ length {A = ℕ} [] = long_enough [] (ap begins (sym (joined text [] split)) ∙ is) in omega (arith, long)

print_by_lines : (text : List ℕ) (lines : List (List ℕ)) → lines_of text ≡ lines → begins text ≡ true → drop 10 text ≡ print_text lines
print_by_lines text [] split is = absurd (no_lines text split is)
print_by_lines text (line ∷ others) split is =
    let here : begins line ≡ true = sym (begins_first text line others split) ∙ is in
    ap (drop 10) (joined text (line ∷ others) split) ∙ drop_joined line others (long_enough line here) ∙ rw (after_here line here) refl

fields_by_lines : (text : List ℕ) (lines : List (List ℕ)) → lines_of text ≡ lines → begins text ≡ true → [] ≡ map field_of (field_data lines)
fields_by_lines text [] split is = refl
fields_by_lines text (line ∷ others) split is = rw (after_here line (sym (begins_first text line others split) ∙ is)) refl

pub print_here : (text rest : List ℕ) → Some rest ≡ after_word (codes "print fmt:") text → rest ≡ print_text (lines_of text)
print_here text rest is = let there = starts text rest is in there.1 ∙ print_by_lines text (lines_of text) refl there.0

pub fields_end : (text rest : List ℕ) (front whole : List Field) → Some rest ≡ after_word (codes "print fmt:") text → front ++ map field_of (field_data (lines_of text)) ≡ whole → front ≡ whole
fields_end text rest front whole is before =
    sym (append-nil front) ∙ ap (λ (l : List Field). front ++ l) (fields_by_lines text (lines_of text) refl (starts text rest is).0) ∙ before

pub fields_more : (text line : List ℕ) (others : List (List ℕ)) (front now whole : List Field) → lines_of text ≡ line ∷ others → None ≡ after_word (codes "print fmt:") text
    → now ≡ front ++ map field_of (cons_option (field_line line) []) → front ++ map field_of (field_data (lines_of text)) ≡ whole → now ++ map field_of (field_data others) ≡ whole
fields_more text line others front now whole split is next before =
    ap (λ (l : List Field). l ++ map field_of (field_data others)) next
    ∙ append_assoc front (map field_of (cons_option (field_line line) [])) (map field_of (field_data others))
    ∙ ap (λ (l : List Field). front ++ l) (one_more (field_line line) (field_data others) ∙ sym (rw (split, after_not line (sym (begins_first text line others split) ∙ not_starts text is)) refl)) ∙ before
  where
    one_more : (o : Option FieldData) (fs : List FieldData) → map field_of (cons_option o []) ++ map field_of fs ≡ map field_of (cons_option o fs)
    one_more None fs = refl
    one_more (Some f) fs = refl

pub print_more : (text line whole : List ℕ) (others : List (List ℕ)) → lines_of text ≡ line ∷ others → None ≡ after_word (codes "print fmt:") text → print_text (lines_of text) ≡ whole → print_text others ≡ whole
print_more text line whole others split is before =
    sym (rw (split, after_not line (sym (begins_first text line others split) ∙ not_starts text is)) refl) ∙ before

pub none_after : (found : Option (Bor (List ℕ))) (text : List ℕ) → option_map (λ rest. rest.now) found ≡ after_word (codes "print fmt:") text → ((rest : Bor (List ℕ)) → found ≡ Some rest → ⊥) → None ≡ after_word (codes "print fmt:") text
none_after None text is never = is
none_after (Some rest) text is never = absurd (never rest refl)

pub all_fields : (front whole : List Field) → front ++ map field_of (field_data []) ≡ whole → front ≡ whole
all_fields front whole before = sym (append-nil front) ∙ before
