-- The directives of a text, one after another.
use Rattle.std.proofs.Common.{◌≡◌, ℕ, zero, suc, ◌+◌, ◌-◌, ◌<◌, ◌≤◌, List, [], ◌∷◌, ◌++◌, length, drop, get_or, Option, Some, None, refl, sym, ap, ◌∙◌, append_assoc, arith}
use Rattle.std.specs.Option.{option_map, option_and_then}
use Rattle.std.proofs.lemmas.List.{append-nil, drop_more, drop_all, length-drop, drop-drop}
use Rattle.fmt_directives.specs.declared.directive.Directive.{Directive}
use Rattle.fmt_directives.specs.Reading.{first_directive, directives_from, directives_of}

skipped : (n at : ℕ) (bytes : List ℕ) → n ≤ length bytes → directives_from n at bytes ≡ directives_from 0 (at + n) (drop n bytes)
unfolding directives_from
skipped zero at [] le = refl
skipped zero at (b ∷ bytes) le = ap (λ (k : ℕ). directives_from 0 k (b ∷ bytes)) (omega arith)
skipped (suc n) at [] le = absurd (omega arith)
skipped (suc n) at (b ∷ bytes) le = skipped n (at + 1) bytes (omega arith) ∙ ap (λ (k : ℕ). directives_from 0 k (drop n bytes)) (omega arith)

-- the directives from a place of the text on
abbrev pub rest_of : List ℕ → ℕ → Option (List Directive)
rest_of text at = directives_from 0 at (drop at text)

pub at_end : (text : List ℕ) (at : ℕ) → length text ≤ at → rest_of text at ≡ Some []
unfolding directives_from
at_end text at le = ap (directives_from 0 at) (drop_all at text le)

abbrev found : Directive → ℕ → Directive × ℕ
found d n = (d, n)

abbrev with_first : ℕ → List ℕ → Directive × ℕ → Option (List Directive)
with_first at bytes d = option_map (λ ds. d.0 ∷ ds) (directives_from (d.1 - 1) (at + 1) bytes)

at_first : (at b : ℕ) (bytes : List ℕ) → directives_from 0 at (b ∷ bytes) ≡ option_and_then (with_first at bytes) (first_directive at (b ∷ bytes))
unfolding directives_from
at_first at b bytes = refl

rest_is : (text : List ℕ) (at : ℕ) → at < length text → rest_of text at ≡ option_and_then (with_first at (drop (at + 1) text)) (first_directive at (drop at text))
rest_is text at lt =
    let parts = drop_more text at 0 lt in
    ap (directives_from 0 at) parts ∙ at_first at (get_or text at 0) (drop (at + 1) text) ∙ ap (λ (t : List ℕ). option_and_then (with_first at (drop (at + 1) text)) (first_directive at t)) (sym parts)

pub at_none : (text : List ℕ) (at : ℕ) → at < length text → first_directive at (drop at text) ≡ None → rest_of text at ≡ None
at_none text at lt none = rest_is text at lt ∙ ap (option_and_then (with_first at (drop (at + 1) text))) none

pub at_directive : (text : List ℕ) (at : ℕ) (d : Directive) (n : ℕ) → at < length text → 0 < n → n ≤ length (drop at text) → first_directive at (drop at text) ≡ Some (found d n)
    → rest_of text at ≡ option_map (λ ds. d ∷ ds) (rest_of text (at + n))
at_directive text at d n lt some within first =
    let room : n - 1 ≤ length (drop (at + 1) text) = omega (arith, within, length-drop at text, length-drop (at + 1) text) in
    let behind : directives_from (n - 1) (at + 1) (drop (at + 1) text) ≡ rest_of text (at + n)
    = skipped (n - 1) (at + 1) (drop (at + 1) text) room ∙ ap (directives_from 0 (at + 1 + (n - 1))) (drop-drop (n - 1) (at + 1) text) ∙ ap (rest_of text) (omega arith) in
    rest_is text at lt ∙ ap (option_and_then (with_first at (drop (at + 1) text))) first ∙ ap (option_map (λ ds. d ∷ ds)) behind

-- the directives so far, before those of the rest
abbrev pub with_front : List Directive → Option (List Directive) → Option (List Directive)
with_front front rest = option_map (λ ds. front ++ ds) rest

regroup : (front : List Directive) (d : Directive) (rest : Option (List Directive)) → with_front (front ++ d ∷ []) rest ≡ with_front front (option_map (λ ds. d ∷ ds) rest)
regroup front d None = refl
regroup front d (Some ds) = ap (λ (us : List Directive). Some us) (append_assoc front (d ∷ []) ds)

pub no_directive : (front : List Directive) (text : List ℕ) (at : ℕ) (all : Option (List Directive)) → at < length text → None ≡ first_directive at (drop at text) → with_front front (rest_of text at) ≡ all → None ≡ all
no_directive front text at all lt none e = ap (with_front front) (sym (at_none text at lt (sym none))) ∙ e

pub over_directive : (front : List Directive) (text : List ℕ) (at : ℕ) (d : Directive) (n : ℕ) (all : Option (List Directive)) → at < length text → 0 < n → n ≤ length (drop at text) → Some (found d n) ≡ first_directive at (drop at text) → with_front front (rest_of text at) ≡ all
    → with_front (front ++ d ∷ []) (rest_of text (at + n)) ≡ all
over_directive front text at d n all lt some within here e = regroup front d (rest_of text (at + n)) ∙ ap (with_front front) (sym (at_directive text at d n lt some within (sym here))) ∙ e

pub all_read : (front : List Directive) (text : List ℕ) (at : ℕ) (all : Option (List Directive)) → length text ≤ at → with_front front (rest_of text at) ≡ all → Some front ≡ all
all_read front text at all past e = ap (λ (ds : List Directive). Some ds) (sym (append-nil front)) ∙ ap (with_front front) (sym (at_end text at past)) ∙ e

nothing_before : (rest : Option (List Directive)) → with_front [] rest ≡ rest
nothing_before None = refl
nothing_before (Some ds) = refl

pub start : (text : List ℕ) → with_front [] (rest_of text 0) ≡ directives_of text
unfolding directives_of
start text = nothing_before (rest_of text 0)
