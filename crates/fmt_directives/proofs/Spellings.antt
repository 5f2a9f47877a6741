-- Directives that spell a text, one after another.
use Rattle.std.proofs.Common.{◌≡◌, ℕ, zero, suc, ◌+◌, ◌<◌, ◌≤◌, List, [], ◌∷◌, ◌++◌, length, drop, Option, Some, None, refl, sym, ap, ◌∙◌, subst, arith, inl, inr, length-drop}
use Rattle.std.specs.Option.{option_map}
use Rattle.std.proofs.lemmas.Bool.{cases_lt}
use Rattle.std.proofs.lemmas.Option.{same_Some, none-some}
use Rattle.fmt_directives.specs.declared.directive.Directive.{Directive}
use Rattle.fmt_directives.specs.declared.directive.Spec.{Spec}
use Rattle.fmt_directives.specs.Directives as rel
use Rattle.fmt_directives.specs.Directives.{IsPiece, SpelledTo, AreDirectives, IsKind, IsWithin, spec_of}
use Rattle.std.specs.List.{All}
use Rattle.std.proofs.lemmas.List.Elements.{All-nil, All-cons}
use Rattle.fmt_directives.specs.Reading.{first_directive, directives_of}
use Rattle.fmt_directives.proofs.Fronts.{pair}
use Rattle.fmt_directives.proofs.PieceLemmas.{PieceAt, piece_sound, piece_complete}
use Rattle.fmt_directives.proofs.Rows.{rest_of, at_end, at_none, at_directive}

pub spelled_more : (text : List ℕ) (start : ℕ) (ds : List Directive) (at : ℕ) (d : Directive) (n : ℕ) → SpelledTo text start ds at → Some (pair d n) ≡ first_directive at (drop at text) → SpelledTo text start (ds ++ d ∷ []) (at + n)
spelled_more text start [] at d n s here =
    subst (λ (k : ℕ). SpelledTo text k (d ∷ []) (at + n)) (sym s) (n, (piece_sound at (drop at text) d n (sym here)).is, refl)
spelled_more text start (e ∷ ds) at d n s here =
    (s.0, s.1, spelled_more text (start + s.0) ds at d n s.2 here)

-- where nothing is computed nothing stands
pub no_piece : (at : ℕ) (bytes : List ℕ) (d : Directive) (n : ℕ) → None ≡ first_directive at bytes → IsPiece at bytes d n → ⊥
no_piece at bytes d n none is = none-some (pair d n) (none ∙ piece_complete at bytes d n is)

-- how far a piece goes
within_piece : (text : List ℕ) (at : ℕ) (d : Directive) (n : ℕ) → IsPiece at (drop at text) d n → PieceAt at (drop at text) d n
within_piece text at d n is = piece_sound at (drop at text) d n (piece_complete at (drop at text) d n is)

pub spelled_rest : (text : List ℕ) (at : ℕ) (ds : List Directive) → SpelledTo text at ds (length text) → rest_of text at ≡ Some ds
spelled_rest text at [] s = at_end text at (omega (arith, s))
spelled_rest text at (d ∷ ds) s =
    let p = within_piece text at d s.0 s.1 in
    at_directive text at d s.0 (omega (arith, p.some, p.within, length-drop at text)) p.some p.within (piece_complete at (drop at text) d s.0 s.1)
    ∙ ap (option_map (λ es. d ∷ es)) (spelled_rest text (at + s.0) ds s.2)

pub one_spelling : (text : List ℕ) (at : ℕ) (ds es : List Directive) → SpelledTo text at ds (length text) → SpelledTo text at es (length text) → ds ≡ es
one_spelling text at ds es s t = same_Some ds es (sym (spelled_rest text at ds s) ∙ spelled_rest text at es t)

map_some : (d : Directive) (o : Option (List Directive)) (ds : List Directive) → option_map (λ es. d ∷ es) o ≡ Some ds → (es : List Directive) × (o ≡ Some es) × (d ∷ es ≡ ds)
map_some d None ds h = absurd (none-some ds h)
map_some d (Some es) ds h = (es, refl, same_Some (d ∷ es) ds h)

abbrev Spelled : List ℕ → ℕ → List Directive → Type 0
Spelled text at ds = SpelledTo text at ds (length text)

ended : (text : List ℕ) (at : ℕ) (ds : List Directive) → at ≡ length text → rest_of text at ≡ Some ds → Spelled text at ds
ended text at ds end h = subst (Spelled text at) (same_Some [] ds (sym (at_end text at (omega arith)) ∙ h)) end

stepped : (text : List ℕ) (at : ℕ) (ds : List Directive) (o : Option (Directive × ℕ)) → ((n : ℕ) (es : List Directive) → 0 < n → at + n ≤ length text → rest_of text (at + n) ≡ Some es → Spelled text (at + n) es)
    → first_directive at (drop at text) ≡ o → at < length text → rest_of text at ≡ Some ds → Spelled text at ds
stepped text at ds None next is lt h = absurd (none-some ds (sym (at_none text at lt is) ∙ h))
stepped text at ds (Some f) next is lt h =
    let p = piece_sound at (drop at text) f.0 f.1 is in
    let rest = map_some f.0 (rest_of text (at + f.1)) ds (sym (at_directive text at f.0 f.1 lt p.some p.within is) ∙ h) in
    subst (Spelled text at) rest.2 (f.1, p.is, next f.1 rest.0 p.some (omega (arith, p.within, length-drop at text)) rest.1)

-- what is computed spells the rest
rest_spelled : (fuel : ℕ) (text : List ℕ) (at : ℕ) (ds : List Directive) → at ≤ length text → length text ≤ at + fuel → rest_of text at ≡ Some ds → Spelled text at ds
rest_spelled zero text at ds le small h = ended text at ds (omega arith) h
rest_spelled (suc fuel) text at ds le small h = elim (cases_lt at (length text)) [
  | inl lt ↦ stepped text at ds (first_directive at (drop at text)) (λ n es some within rest. rest_spelled fuel text (at + n) es within (omega arith) rest) refl lt h
  | inr end ↦ ended text at ds (omega arith) h
]

pub computed_spells : (text : List ℕ) (ds : List Directive) → directives_of text ≡ Some ds → AreDirectives text ds
unfolding directives_of
computed_spells text ds h = rest_spelled (length text) text 0 ds (omega arith) (omega arith) h

pub spelled_computed : (text : List ℕ) (ds : List Directive) → AreDirectives text ds → directives_of text ≡ Some ds
unfolding directives_of
spelled_computed text ds s = spelled_rest text 0 ds s

kind_within : (len : ℕ) (spec : Spec) (text : List ℕ) (d : Directive) → IsKind spec text d → IsWithin len d
kind_within len spec text d rel.decimal = tt
kind_within len spec text d rel.integer = tt
kind_within len spec text d rel.unsigned = tt
kind_within len spec text d rel.hexadecimal = tt
kind_within len spec text d rel.upper_hexadecimal = tt
kind_within len spec text d rel.octal = tt
kind_within len spec text d rel.letter = tt
kind_within len spec text d rel.string = tt
kind_within len spec text d (rel.pointer run f is) = tt

piece_within : (text : List ℕ) (at : ℕ) (d : Directive) (n : ℕ) → IsPiece at (drop at text) d n → IsWithin (length text) d
piece_within text at d n (rel.run r) =
    let p = within_piece text at d n (rel.run r) in
    subst (IsWithin (length text)) (sym r.is) (omega arith, omega (arith, p.within, p.some, length-drop at text))
piece_within text at d n (rel.percent r) =
    let p = within_piece text at d n (rel.percent r) in
    subst (IsWithin (length text)) (sym r.is) (omega arith, omega (arith, r.long, p.within, p.some, length-drop at text))
piece_within text at d n (rel.converted r) = kind_within (length text) (spec_of r.is.flags r.is.width r.is.precision r.is.length) r.is.kind_text d r.is.kind_is

pub spelled_within : (text : List ℕ) (at : ℕ) (ds : List Directive) (end : ℕ) → SpelledTo text at ds end → All (IsWithin (length text)) ds
spelled_within text at [] end s = All-nil (IsWithin (length text))
spelled_within text at (d ∷ ds) end s = All-cons (IsWithin (length text)) d ds (piece_within text at d s.0 s.1) (spelled_within text (at + s.0) ds end s.2)
