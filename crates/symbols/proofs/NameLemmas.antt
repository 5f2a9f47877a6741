-- Names in a text.
use Rattle.std.proofs.Common.{◌≡◌, ℕ, ◌+◌, ◌-◌, ◌<◌, ◌≤◌, List, [], ◌∷◌, ◌++◌, reverse, length, take, drop, All, sym, ap, subst, refl, ◌∙◌, arith}
use Rattle.std.proofs.lemmas.List.{map-append, length-append, drop_at, reverse-append, get_or-reverse, length-reverse}
use Rattle.symbols.specs.declared.names.Spot.{Spot}
use Rattle.symbols.specs.NameMap.{Pair}
use Rattle.symbols.specs.Names.{text_in, spot_view, spots_view, AreWithin, EndsWith}

-- one more name
pub one_more : (text : List ℕ) (spots now : List Spot) (s : Spot) (name : List ℕ) → now ≡ spots ++ s ∷ [] → text_in text s.span ≡ name → spots_view text now ≡ spots_view text spots ++ (s.key, name) ∷ []
one_more text spots now s name is named =
    ap (spots_view text) is ∙ map-append (spot_view text) spots (s ∷ []) ∙ ap (λ (l : List ℕ). spots_view text spots ++ (s.key, l) ∷ []) named

-- where the name stands in the text
pub span_inside : (text from : List ℕ) (len : ℕ) → EndsWith text from → len ≤ length from → (length from ≤ length text) × (length text - length from + len ≤ length text)
span_inside text from len ends inside =
    let long : length text ≡ length ends.0 + length from = ap length ends.1 ∙ length-append ends.0 from in
    (omega (arith, long), omega (arith, long, inside))

pub span_named : (text from : List ℕ) (len : ℕ) → EndsWith text from → take len (drop (length text - length from) text) ≡ take len from
span_named text from len ends =
    let at : length ends.0 ≡ length text - length from = omega (arith, ap length ends.1 ∙ length-append ends.0 from) in
    ap (λ (l : List ℕ). take len (drop (length text - length from) l)) ends.1 ∙ ap (take len) (drop_at ends.0 from (length text - length from) at)

pub turned : (text : List ℕ) (spots now : List Spot) → now ≡ reverse spots → spots_view text now ≡ reverse (spots_view text spots)
turned text spots now is = ap (spots_view text) is ∙ by spots
  where
    by : (xs : List Spot) → spots_view text (reverse xs) ≡ reverse (spots_view text xs)
    by [] = refl
    by (x ∷ xs) = ap (spots_view text) (reverse-append (x ∷ []) xs) ∙ map-append (spot_view text) (reverse xs) (x ∷ []) ∙ ap (λ (l : List Pair). l ++ spot_view text x ∷ []) (by xs) ∙ sym (reverse-append (spot_view text x ∷ []) (spots_view text xs))

all_turned : (P : Spot → Type 0) (xs : List Spot) → All P xs → All P (reverse xs)
all_turned P xs each = λ k d less.
    let inside : k < length xs = omega (arith, less, length-reverse xs) in
    subst P (sym (get_or-reverse xs k d inside)) (each (length xs - 1 - k) d (omega (arith, inside)))

pub within_turned : (text : List ℕ) (spots now : List Spot) → AreWithin text spots → now ≡ reverse spots → AreWithin text now
within_turned text spots now within is = subst (AreWithin text) (sym is) (all_turned (λ (s : Spot). s.span.start + s.span.len ≤ length text) spots within)
