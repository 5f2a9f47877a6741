-- Texts that do not begin with a word.
use Rattle.std.proofs.Common.{◌≡◌, ℕ, ◌<◌, Bool, true, false, ◌||◌, eqb, List, [], ◌∷◌, ◌++◌, length, get_or, codes, Option, None, Some, refl, sym, ap, ◌∙◌, arith}
use Rattle.std.proofs.lemmas.Bool.{eq-eqb}
use Rattle.std.proofs.lemmas.List.{length-append}
use Rattle.trace_base.specs.FieldLine.{skip_blanks}
use Rattle.trace_base.specs.FieldReading.{after_word, field_line}
use Rattle.trace_base.proofs.FieldEntries.{after_is}
use Rattle.format_parse.specs.CommonFields.{may_begin}

never_behind : (o : Option (List ℕ)) (word text : List ℕ) → after_word word text ≡ o → ((rest : List ℕ) → text ≡ word ++ rest → ⊥) → None ≡ after_word word text
never_behind None word text e never = sym e
never_behind (Some rest) word text e never = absurd (never rest (after_is word text rest e))

pub no_text : (word text : List ℕ) → 0 < length word → length text ≡ 0 → None ≡ after_word word text
no_text word text some none = never_behind (after_word word text) word text refl (λ rest e. absurd (omega (arith, some, none, ap length e, length-append word rest)))

pub other_front : (word text : List ℕ) → 0 < length word → (get_or text 0 0 ≡ get_or word 0 0 → ⊥) → None ≡ after_word word text
other_front [] text some other = absurd (omega (arith, some))
other_front (first ∷ word) text some other = never_behind (after_word (first ∷ word) text) (first ∷ word) text refl (λ rest e. other (ap (λ (l : List ℕ). get_or l 0 0) e))

-- lines that are no field lines by their first byte
pub no_line : (line : List ℕ) → length line ≡ 0 → None ≡ field_line line
unfolding field_line after_word
no_line [] none = refl
no_line (byte ∷ line) none = absurd (omega (arith, none))

neither : (p q : Bool) → (p || q) ≡ false → (p ≡ false) × (q ≡ false)
neither false false e = (refl, refl)
neither false true e = absurd (let never : true ≡ false = e in cc)
neither true q e = absurd (let never : true ≡ false = e in cc)

pub other_line : (line : List ℕ) → 0 < length line → may_begin (get_or line 0 0) ≡ false → None ≡ field_line line
unfolding field_line
other_line [] some other = absurd (omega (arith, some))
other_line (byte ∷ line) some other =
    let parts = neither (((eqb byte 32 || eqb byte 9) || eqb byte 10) || eqb byte 13) (eqb byte 102) other in
    let skipped : skip_blanks (byte ∷ line) ≡ byte ∷ line = rw parts.0 refl in
    let none : after_word (codes "field:") (skip_blanks (byte ∷ line)) ≡ None =
    ap (after_word (codes "field:")) skipped ∙ sym (other_front (codes "field:") (byte ∷ line) (omega arith) (λ is. let clash : true ≡ false = sym (eq-eqb byte 102 is) ∙ parts.1 in cc)) in
    rw none refl
