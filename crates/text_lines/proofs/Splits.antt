-- The lines of a text.
use Rattle.std.proofs.Common.{◌≡◌, slice_index, ℕ, suc, Bool, true, false, eqb, ltb, cond, inl, inr, ◌+◌, List, [], ◌∷◌, length, take, drop, Option, None, Some, refl, sym, ap, subst, ◌∙◌, arith}
use Rattle.std.proofs.lemmas.Bool.{cases_Bool, ltb-true, ltb-false}
use Rattle.std.proofs.lemmas.List.Splits.{slice_split_first, slice_split_none}
use Rattle.std.proofs.lemmas.List.Sums.{fails_before_first, position_or_len_is}
use Rattle.bstr.specs.Find.{is_byte, IsFirstByte}
use Rattle.std.specs.List.{position, position_or_len}
use denote.Ref.{Bor}
use Rattle.text_lines.specs.Lines.{lines_of}

some_is : (x y : ℕ) → Some x ≡ Some y → x ≡ y
some_is x y e = ap (λ (o : Option ℕ). elim o [ None ↦ x | Some z ↦ z ]) e

abbrev pub lines_long : Option (Bor (List ℕ)) → ℕ
lines_long None = 0
lines_long (Some text) = suc (length text.now)

otherwise : (b : Bool) → (b ≡ true → ⊥) → b ≡ false
otherwise true never = absurd (never refl)
otherwise false never = refl

-- a search for the first newline answers its position
pub newline_at : (text : List ℕ) (at : Option ℕ) → IsFirstByte (is_byte 10) text at → at ≡ position (λ byte. eqb byte 10) text
newline_at text None none =
    let place : position_or_len (λ byte. eqb byte 10) text ≡ length text =
    position_or_len_is (λ byte. eqb byte 10) text (length text) 0 (omega arith) (λ k less. otherwise (eqb (slice_index text k) 10) (none k (omega arith) less)) (λ less. absurd (omega arith)) in
    elim (cases_Bool (ltb (position_or_len (λ byte. eqb byte 10) text) (length text))) [
      | inl inside ↦ absurd (omega (arith, place, ltb-true _ _ inside))
      | inr past ↦ sym (ap (λ (b : Bool). cond b (Some (position_or_len (λ byte. eqb byte 10) text)) None) past)
    ]
newline_at text (Some at) found =
    let place : position_or_len (λ byte. eqb byte 10) text ≡ at =
    position_or_len_is (λ byte. eqb byte 10) text at 0 (omega (arith, found.0.high)) (λ k less. otherwise (eqb (slice_index text k) 10) (found.0.before k (omega arith) less)) (λ less. found.1) in
    elim (cases_Bool (ltb (position_or_len (λ byte. eqb byte 10) text) (length text))) [
      | inl inside ↦ ap (λ (n : ℕ). Some n) (sym place) ∙ sym (ap (λ (b : Bool). cond b (Some (position_or_len (λ byte. eqb byte 10) text)) None) inside)
      | inr past ↦ absurd (omega (arith, place, found.0.high, ltb-false _ _ past))
    ]

-- where a newline stands, and where none does
pub split_some : (text : List ℕ) (at : ℕ) → Some at ≡ position (λ byte. eqb byte 10) text → lines_of text ≡ take at text ∷ lines_of (drop (at + 1) text)
split_some text at e = elim (cases_Bool (ltb (position_or_len (λ byte. eqb byte 10) text) (length text))) [
  | inr past ↦ let never : Some at ≡ None = e ∙ ap (λ (b : Bool). cond b (Some (position_or_len (λ byte. eqb byte 10) text)) None) past in cc
  | inl inside ↦
      let place : at ≡ position_or_len (λ byte. eqb byte 10) text = some_is _ _ (e ∙ ap (λ (b : Bool). cond b (Some (position_or_len (λ byte. eqb byte 10) text)) None) inside) in
      subst (λ (n : ℕ). lines_of text ≡ take n text ∷ lines_of (drop (n + 1) text)) (sym place) (slice_split_first (λ byte. eqb byte 10) text 0 (ltb-true _ _ inside))
]

pub split_none : (text : List ℕ) → None ≡ position (λ byte. eqb byte 10) text → lines_of text ≡ text ∷ []
split_none text e = elim (cases_Bool (ltb (position_or_len (λ byte. eqb byte 10) text) (length text))) [
  | inl inside ↦ let never : None ≡ Some (position_or_len (λ byte. eqb byte 10) text) = e ∙ ap (λ (b : Bool). cond b (Some (position_or_len (λ byte. eqb byte 10) text)) None) inside in cc
  | inr past ↦ slice_split_none (λ byte. eqb byte 10) text (λ k d h. fails_before_first (λ byte. eqb byte 10) text k d (omega (arith, h, ltb-false _ _ past)))
]
