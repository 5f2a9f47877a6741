-- A text of one letter or none that is shown as it is.
use Rattle.std.proofs.Common.{◌≡◌, ℕ, Bool, List, [], ◌∷◌, length, Option, None, refl, sym, ap, ◌∙◌, arith}
use Rattle.std.specs.Prelude.{true, slice_index}
use Rattle.trace_base.specs.Kept.{is_letter, put_held, until_nul}
use Rattle.trace_base.specs.TailView.{held, lent}
use Rattle.trace_base.specs.declared.tail.Tail.{Tail}
use Rattle.fmt_forms.specs.Gathered.{gathered, joined}
use Rattle.fmt_forms.specs.Texts.{cut_to, padded}
use Rattle.fmt_forms.proofs.Gathering.{nothing_joined, put_shown}
use Rattle.fmt_forms.proofs.PlainLemmas.{padded_bare}

-- a text that is shown as it is, without a width and a precision
shown_bare : (left : Bool) (width : ℕ) (precision : Option ℕ) (text : List ℕ) → width ≡ 0 → precision ≡ None → text ≡ padded left width (cut_to precision text)
shown_bare left width precision text none all = ap (λ (p : Option ℕ). cut_to p text) (sym all) ∙ padded_bare left width (cut_to precision text) none

whole_none : (text : List ℕ) → length text ≡ 0 → [] ≡ until_nul text
whole_none [] none = refl
whole_none (b ∷ text) none = absurd (omega arith)

whole_letter : (text : List ℕ) → length text ≡ 1 → is_letter (slice_index text 0) ≡ true → text ≡ until_nul text
whole_letter [] one letter = absurd (omega (arith, one))
whole_letter (b ∷ []) one letter = rw letter refl
whole_letter (b ∷ c ∷ text) one letter = absurd (omega (arith, one))

pub nothing_short : (tail : Tail) (left : Bool) (width : ℕ) (precision : Option ℕ) (text : List ℕ) → length text ≡ 0 → width ≡ 0 → precision ≡ None
    → gathered tail ≡ joined (gathered tail) (padded left width (cut_to precision (until_nul text)))
nothing_short tail left width precision text empty none all =
    nothing_joined tail ∙ ap (joined (gathered tail)) (whole_none text empty ∙ shown_bare left width precision (until_nul text) none all)

pub letter_short : (before tail : Tail) (left : Bool) (width : ℕ) (precision : Option ℕ) (text : List ℕ) → lent tail ≡ lent before → held tail ≡ put_held (held before) text
    → length text ≡ 1 → is_letter (slice_index text 0) ≡ true → width ≡ 0 → precision ≡ None
    → gathered tail ≡ joined (gathered before) (padded left width (cut_to precision (until_nul text)))
letter_short before tail left width precision text slice is one letter none all =
    put_shown before tail text slice is ∙ ap (joined (gathered before)) (whole_letter text one letter ∙ shown_bare left width precision (until_nul text) none all)

pub bare_shown : (before tail : Tail) (left : Bool) (width : ℕ) (precision : Option ℕ) (text : List ℕ) → gathered tail ≡ joined (gathered before) text → width ≡ 0 → precision ≡ None
    → gathered tail ≡ joined (gathered before) (padded left width (cut_to precision text))
bare_shown before tail left width precision text is none all = is ∙ ap (joined (gathered before)) (shown_bare left width precision text none all)
