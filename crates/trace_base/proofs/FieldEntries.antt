-- The entries of a field line: a word, a number and a semicolon, after blanks.
use Rattle.std.proofs.Common.{◌≡◌, ℕ, ◌+◌, ◌^◌, ◌<◌, inl, inr, Bool, true, false, not, cond, ltb, eqb, ◌==◌, ◌&&◌, codes, List, [], ◌∷◌, ◌++◌, length, take, drop, get_or, None, Some, refl, sym, ap, subst, ◌∙◌, append_assoc, append-nil, arith}
use Rattle.std.proofs.lemmas.Bool.{ltb-true, lt-ltb, eqb-true, ne_eqb}
use Rattle.std.proofs.lemmas.List.{take_at, drop_at, take-append-drop, length-append, drop-drop}
use Rattle.std.proofs.lemmas.List.Sums.{split_at_first, passes_at_first}
use Rattle.std.proofs.lemmas.Slice.Eq.{bytes_eq-Decides}
use Rattle.std.specs.List.{list_all, prefix_len, position, position_or_len, before_first, after_first}
use Rattle.std.specs.Char.{is_digit}
use Rattle.std.specs.Str.{bytes_eq}
use Rattle.std.specs.Str.Parse.{digits_value}
use Rattle.byte_classes.specs.Bytes.{is_blank}
use Rattle.trace_base.specs.FieldLine.{skip_blanks, is_decimal, decimal, IsEntry, IsSign}
use Rattle.trace_base.specs.FieldReading.{after_word, cut_at, entry_at, sign_at}
use Rattle.trace_base.specs.OptionSteps.{◌>>=◌}
use Rattle.trace_base.proofs.FieldSteps.{bind_some, guarded, chosen, some_is, both}
use Rattle.trace_base.proofs.FieldNumbers.{digits}
use Rattle.trace_base.proofs.FieldRuns.{BeginsOutside, run_again, run_all}

pub after_again : (word rest : List ℕ) → after_word word (word ++ rest) ≡ Some rest
unfolding after_word
after_again word rest =
    let same : bytes_eq (take (length word) (word ++ rest)) word ≡ true = (bytes_eq-Decides (take (length word) (word ++ rest)) word).1 (take_at word rest (length word) refl) in
    rw (same, drop_at word rest (length word) refl) refl

pub after_is : (word text rest : List ℕ) → after_word word text ≡ Some rest → text ≡ word ++ rest
unfolding after_word
after_is word text rest is =
    let found = guarded (bytes_eq (take (length word) text) word) (Some (drop (length word) text)) rest is in
    sym (take-append-drop (length word) text) ∙ ap (λ front. front ++ drop (length word) text) ((bytes_eq-Decides (take (length word) text) word).0 found.0)
    ∙ ap (λ back. word ++ back) (some_is (drop (length word) text) rest found.1)

-- no byte is a semicolon
abbrev pub unended : ℕ → Bool
unended byte = not (byte == 59)

pub cut_again : (front rest : List ℕ) → list_all unended front ≡ true → cut_at (front ++ (codes ";" ++ rest)) ≡ Some (front, rest)
unfolding cut_at
cut_again front rest none =
    let text = front ++ (codes ";" ++ rest) in
    let at : prefix_len unended text ≡ length front = run_again unended front (codes ";" ++ rest) none refl in
    let inside : ltb (length front) (length text) ≡ true = lt-ltb _ _ (omega (arith, length-append front (codes ";" ++ rest))) in
    let before : take (length front) text ≡ front = take_at front (codes ";" ++ rest) (length front) refl in
    let behind : drop (length front + 1) text ≡ rest = sym (drop-drop 1 (length front) text) ∙ ap (drop 1) (drop_at front (codes ";" ++ rest) (length front) refl) in
    rw (at, inside, before, behind) refl

pub cut_is : (text front rest : List ℕ) → cut_at text ≡ Some (front, rest) → (text ≡ front ++ (codes ";" ++ rest)) × (list_all unended front ≡ true)
unfolding cut_at
cut_is text front rest is =
    let test : ℕ → Bool = λ byte. byte == 59 in
    let found = bind_some (position test text) (λ at. Some (take at text, drop (at + 1) text)) (front, rest) is in
    let inside = guarded (ltb (position_or_len test text) (length text)) (Some (position_or_len test text)) found.0 found.1 in
    let at : position_or_len test text ≡ found.0 = some_is (position_or_len test text) found.0 inside.1 in
    let within : position_or_len test text < length text = ltb-true _ _ inside.0 in
    let mark : get_or text (position_or_len test text) 0 ≡ 59 = eqb-true _ _ (passes_at_first test text 0 within) in
    let whole : text ≡ before_first test text ++ (codes ";" ++ after_first test text) =
    split_at_first test text 0 within ∙ ap (λ byte. before_first test text ++ (byte ∷ after_first test text)) mark in
    let parts : (before_first test text, after_first test text) ≡ (front, rest) =
    ap (λ n. (take n text, drop (n + 1) text)) at ∙ some_is (take found.0 text, drop (found.0 + 1) text) (front, rest) found.2 in
    subst (λ (p : List ℕ × List ℕ). (text ≡ p.0 ++ (codes ";" ++ p.1)) × (list_all unended p.0 ≡ true)) parts (whole, run_all unended text)

digit_unended : (byte : ℕ) → is_digit byte 10 ≡ true → unended byte ≡ true
digit_unended byte digit = by (eqb byte 59) refl
  where
    by : (b : Bool) → eqb byte 59 ≡ b → not b ≡ true
    by true is = let other : is_digit 59 10 ≡ true = ap (λ b. is_digit b 10) (sym (eqb-true byte 59 is)) ∙ digit in absurd cc
    by false is = refl

digits_unended : (text : List ℕ) → digits text ≡ true → list_all unended text ≡ true
digits_unended [] all = refl
digits_unended (byte ∷ text) all =
    let parts = both (is_digit byte 10) (digits text) all in
    rw (digit_unended byte parts.0, digits_unended text parts.1) refl

pub decimal_unended : (text : List ℕ) (number : ℕ) → decimal text ≡ Some number → list_all unended text ≡ true
unfolding decimal
decimal_unended text number is =
    let found = guarded (is_decimal text && ltb (digits_value 10 text) (2 ^ 32)) (Some (digits_value 10 text)) number is in
    let parts = both (is_decimal text) (ltb (digits_value 10 text) (2 ^ 32)) found.0 in
    digits_unended text (both (ltb 0 (length text)) (digits text) parts.0).1

pub skip_again : (blanks rest : List ℕ) → list_all is_blank blanks ≡ true → BeginsOutside is_blank rest → skip_blanks (blanks ++ rest) ≡ rest
skip_again blanks rest blank outside =
    ap (λ n. drop n (blanks ++ rest)) (run_again is_blank blanks rest blank outside) ∙ drop_at blanks rest (length blanks) refl

-- a word that blanks do not run into
abbrev pub IsSolid : List ℕ → Type 0
IsSolid word = (rest : List ℕ) → BeginsOutside is_blank (word ++ rest)

pub entry_again : (word : List ℕ) → IsSolid word → (number : ℕ) (text rest : List ℕ) → IsEntry word number text → entry_at word (text ++ rest) ≡ Some (number, rest)
unfolding entry_at
entry_again word solid number text rest entry =
    let whole : text ++ rest ≡ entry.blanks ++ (word ++ (entry.digits ++ (codes ";" ++ rest))) =
    ap (λ front. front ++ rest) entry.whole ∙ append_assoc entry.blanks (word ++ (entry.digits ++ codes ";")) rest
    ∙ ap (λ back. entry.blanks ++ back) (append_assoc word (entry.digits ++ codes ";") rest ∙ ap (λ back. word ++ back) (append_assoc entry.digits (codes ";") rest)) in
    let skipped : skip_blanks (text ++ rest) ≡ word ++ (entry.digits ++ (codes ";" ++ rest)) =
    ap skip_blanks whole ∙ skip_again entry.blanks (word ++ (entry.digits ++ (codes ";" ++ rest))) entry.blank (solid (entry.digits ++ (codes ";" ++ rest))) in
    rw (skipped, after_again word (entry.digits ++ (codes ";" ++ rest)), cut_again entry.digits rest (decimal_unended entry.digits number entry.number_is), entry.number_is) refl

-- the front of a text that was read as an entry
pub record EntryTakes (word : List ℕ) (number : ℕ) (text rest : List ℕ) : Type 0 where
  pub front : List ℕ
  pub whole : text ≡ front ++ rest
  pub entry : IsEntry word number front

pub entry_is : (word : List ℕ) (number : ℕ) (text rest : List ℕ) → entry_at word text ≡ Some (number, rest) → EntryTakes word number text rest
unfolding entry_at
entry_is word number text rest is =
    let worded = bind_some (after_word word (skip_blanks text)) (λ back. cut_at back >>= (λ parts. decimal parts.0 >>= (λ n. Some (n, parts.1)))) (number, rest) is in
    let parted = bind_some (cut_at worded.0) (λ parts. decimal parts.0 >>= (λ n. Some (n, parts.1))) (number, rest) worded.2 in
    let numbered = bind_some (decimal parted.0.0) (λ n. Some (n, parted.0.1)) (number, rest) parted.2 in
    let same : (numbered.0, parted.0.1) ≡ (number, rest) = some_is (numbered.0, parted.0.1) (number, rest) numbered.2 in
    let blanks = take (prefix_len is_blank text) text in
    let cut = cut_is worded.0 parted.0.0 parted.0.1 parted.1 in
    let front = blanks ++ (word ++ (parted.0.0 ++ codes ";")) in
    let whole : text ≡ front ++ parted.0.1 =
    sym (take-append-drop (prefix_len is_blank text) text)
    ∙ ap (λ back. blanks ++ back) (after_is word (skip_blanks text) worded.0 worded.1 ∙ ap (λ back. word ++ back) (cut.0 ∙ sym (append_assoc parted.0.0 (codes ";") parted.0.1)) ∙ sym (append_assoc word (parted.0.0 ++ codes ";") parted.0.1))
    ∙ sym (append_assoc blanks (word ++ (parted.0.0 ++ codes ";")) parted.0.1) in
    subst (λ (p : ℕ × List ℕ). EntryTakes word p.0 text p.1) same (record {
      front = front;
      whole = whole;
      entry = record { blanks = blanks; digits = parted.0.0; whole = refl; blank = run_all is_blank text; number_is = numbered.1 };
    })

length-entry : (word : List ℕ) (number : ℕ) (text : List ℕ) → IsEntry word number text → 0 < length text
length-entry word number text entry =
    let long : length text ≡ length (entry.blanks ++ (word ++ (entry.digits ++ codes ";"))) = ap length entry.whole in
    omega (arith, long, length-append entry.blanks (word ++ (entry.digits ++ codes ";")), length-append word (entry.digits ++ codes ";"), length-append entry.digits (codes ";"))

pub sign_again : (signed : Bool) (text : List ℕ) → IsSign signed text → sign_at text ≡ Some signed
unfolding sign_at
sign_again signed text (inl none) = rw (none.0, none.1) refl
sign_again signed text (inr sign) =
    let some : eqb (length text) 0 ≡ false = ne_eqb (length text) 0 (λ e. omega (arith, e, length-entry (codes "signed:") sign.0 text sign.1)) in
    let read : entry_at (codes "signed:") text ≡ Some (sign.0, []) =
    ap (entry_at (codes "signed:")) (sym (append-nil text)) ∙ entry_again (codes "signed:") (λ rest. refl) sign.0 text [] sign.1 in
    rw (some, read, sign.2) refl

empty_is : (text : List ℕ) → length text ≡ 0 → text ≡ []
empty_is [] none = refl
empty_is (byte ∷ text) none = absurd (omega arith)

pub sign_is : (signed : Bool) (text : List ℕ) → sign_at text ≡ Some signed → IsSign signed text
unfolding sign_at
sign_is signed text is = elim (chosen (eqb (length text) 0) _ _ _ is) [
  | inl none ↦ inl (empty_is text (eqb-true _ _ none.0), sym (some_is false signed none.1))
  | inr some ↦
      let entry = bind_some (entry_at (codes "signed:") text) (λ entry. cond (eqb (length entry.1) 0) (Some (not (entry.0 == 0))) None) signed some.1 in
      let last = guarded (eqb (length entry.0.1) 0) (Some (not (entry.0.0 == 0))) signed entry.2 in
      let takes = entry_is (codes "signed:") entry.0.0 text entry.0.1 entry.1 in
      let whole : takes.front ≡ text = sym (append-nil takes.front) ∙ ap (λ back. takes.front ++ back) (sym (empty_is entry.0.1 (eqb-true _ _ last.0))) ∙ sym takes.whole in
      inr (entry.0.0, subst (λ (front : List ℕ). IsEntry (codes "signed:") entry.0.0 front) whole takes.entry, sym (some_is (not (entry.0.0 == 0)) signed last.1))
]
