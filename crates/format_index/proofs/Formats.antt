-- Formats by their places, for those who keep something for each of them.
use Rattle.std.proofs.Common.{◌≡◌, ℕ, zero, suc, ◌+◌, Bool, true, false, cond, ltb, nat_eq, List, [], ◌∷◌, ◌++◌, map, length, take, slice_get, position, Option, Some, None, refl, sym, ap, ◌∙◌, arith}
use Rattle.std.specs.List.{cons_option, find, position_or_len, IsDistinct, AllByRecursion}
use Rattle.std.proofs.lemmas.Bool.{ltb-false, eq-eqb, ne_eqb, eqb-false}
use Rattle.std.proofs.lemmas.List.{map-append, take_all}
use Rattle.std.proofs.lemmas.List.Folds.{find_at}
use Rattle.std.proofs.lemmas.Option.{slice_get_past, cond_some}
use Rattle.trace_base.proofs.FieldSteps.{some_is}
use Rattle.format_parse.specs.declared.format.EventFormat.{EventFormat}
use Rattle.format_parse.specs.Table.{has_id, format_at, IdsDiffer}

-- one more of a list, and what is made of one more
pub take_next : {X : Type 0} (xs : List X) (i : ℕ) → take (i + 1) xs ≡ take i xs ++ cons_option (slice_get xs i) []
take_next [] i = take_all (i + 1) [] (omega arith) ∙ sym (ap (λ (l : List _). l ++ []) (take_all i [] (omega arith)))
take_next (x ∷ xs) zero = refl
take_next (x ∷ xs) (suc i) = let more : suc i + 1 ≡ suc (i + 1) = omega arith in ap (λ (n : ℕ). take n (x ∷ xs)) more ∙ ap (λ (l : List _). x ∷ l) (take_next xs i)

pub map_next : {X Y : Type 0} (f : X → Y) (xs : List X) (i : ℕ) (front now : List Y) → front ≡ map f (take i xs) → now ≡ front ++ map f (cons_option (slice_get xs i) []) → now ≡ map f (take (i + 1) xs)
map_next f xs i front now before is =
    is ∙ ap (λ (l : List _). l ++ map f (cons_option (slice_get xs i) [])) before
    ∙ sym (map-append f (take i xs) (cons_option (slice_get xs i) [])) ∙ ap (map f) (sym (take_next xs i))

-- the format with an id stands at the place of the id
found : (id : ℕ) (formats : List EventFormat) → format_at id formats ≡ find (has_id id) formats
found id [] = refl
found id (format ∷ formats) = ap (λ (o : Option EventFormat). cond (has_id id format) (Some format) o) (found id formats)

pub at_place : (id : ℕ) (formats : List EventFormat) → format_at id formats ≡ slice_get formats (position_or_len (has_id id) formats)
at_place id formats = found id formats ∙ find_at (has_id id) formats

pub at_its_place : (id i : ℕ) (formats : List EventFormat) → Some i ≡ position (has_id id) formats → format_at id formats ≡ slice_get formats i
at_its_place id i formats is =
    let inside = cond_some (ltb (position_or_len (has_id id) formats) (length formats)) (position_or_len (has_id id) formats) i (sym is) in
    at_place id formats ∙ ap (slice_get formats) inside.1

pub at_no_place : (id : ℕ) (formats : List EventFormat) → None ≡ position (has_id id) formats → format_at id formats ≡ None
at_no_place id formats none = by (ltb (position_or_len (has_id id) formats) (length formats)) refl
  where
    by : (b : Bool) → ltb (position_or_len (has_id id) formats) (length formats) ≡ b → format_at id formats ≡ None
    by true inside = let some : None ≡ Some (position_or_len (has_id id) formats) = none ∙ ap (λ (b : Bool). cond b (Some (position_or_len (has_id id) formats)) None) inside in absurd cc
    by false past = at_place id formats ∙ slice_get_past formats (position_or_len (has_id id) formats) (ltb-false _ _ past)

-- of formats without equal ids each is the one with its id
apart : (id : ℕ) (formats : List EventFormat) (i : ℕ) (format : EventFormat) → AllByRecursion (λ (other : ℕ). nat_eq id other ≡ false) (map (λ f. f.id) formats) → Some format ≡ slice_get formats i → nat_eq id format.id ≡ false
apart id [] i format all is = absurd (grind (arith, is))
apart id (f ∷ fs) zero format all is = ap (λ (g : EventFormat). nat_eq id g.id) (some_is format f is) ∙ all.0
apart id (f ∷ fs) (suc i) format all is = apart id fs i format all.1 is

pub place_here : (formats : List EventFormat) (i : ℕ) (format : EventFormat) → IdsDiffer formats → Some format ≡ slice_get formats i → position_or_len (has_id format.id) formats ≡ i
unfolding IsDistinct
place_here [] i format differ is = absurd (grind (arith, is))
place_here (f ∷ fs) zero format differ is = rw (eq-eqb format.id f.id (ap (λ (g : EventFormat). g.id) (some_is format f is))) refl
place_here (f ∷ fs) (suc i) format differ is =
    rw (ne_eqb format.id f.id (λ same. eqb-false f.id format.id (apart f.id fs i format differ.0 is) (sym same)))
    (let rest = place_here fs i format differ.1 is in omega (arith, rest))

pub format_here : (formats : List EventFormat) (i : ℕ) (format : EventFormat) → IdsDiffer formats → Some format ≡ slice_get formats i → format_at format.id formats ≡ Some format
format_here formats i format differ is = at_place format.id formats ∙ ap (slice_get formats) (place_here formats i format differ is) ∙ sym is
