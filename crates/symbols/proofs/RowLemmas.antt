-- Names at their places.
use Rattle.std.proofs.Common.{◌≡◌, ℕ, zero, suc, ◌+◌, ◌-◌, ◌<◌, ◌≤◌, List, [], ◌∷◌, ◌++◌, length, take, slice_get, get_or, Some, None, refl, sym, ap, subst, ◌∙◌, arith}
use Rattle.std.specs.Map.{keys_of}
use Rattle.std.proofs.lemmas.List.{map-append, length-map, take_more, take_all}
use Rattle.symbols.specs.declared.names.Names.{Names}
use Rattle.symbols.specs.declared.names.Spot.{Spot}
use Rattle.symbols.specs.NameMap.{Pair, RisesFrom, IsNearest, NoneUpTo, last_up_to}
use Rattle.symbols.specs.Names.{text_in, spot_view, spots_view, names_view}
use Rattle.symbols.specs.Search.{keys_in, RisesKeys, IsLastUpTo, NoneWithin}
use Rattle.symbols.proofs.PairLemmas.{rises_keys, nearest_is, within, none_up_to, last_found, last_none}

view_get : (block : List ℕ) (xs : List Spot) (i : ℕ) (d : Spot) → i < length xs → slice_get (spots_view block xs) i ≡ Some (spot_view block (get_or xs i d))
view_get block [] i d less = absurd (omega (arith, less))
view_get block (x ∷ xs) zero d less = refl
view_get block (x ∷ xs) (suc i) d less = view_get block xs i d (omega (arith, less))

view_past : (block : List ℕ) (xs : List Spot) (i : ℕ) → length xs ≤ i → slice_get (spots_view block xs) i ≡ None
view_past block [] i le = refl
view_past block (x ∷ xs) zero le = absurd (omega (arith, le))
view_past block (x ∷ xs) (suc i) le = view_past block xs i (omega (arith, le))

pub row_at : (names : Names) (i : ℕ) (spot : Spot) (name : List ℕ) → i < length names.spots.items → spot ≡ get_or names.spots.items i spot → name ≡ text_in names.text spot.span
    → slice_get (names_view names) i ≡ Some (spot.key, name)
row_at names i spot name less is_spot is_name =
    view_get names.text names.spots.items i spot less
    ∙ ap (λ (s : Spot). Some (spot_view names.text s)) (sym is_spot)
    ∙ ap (λ (n : List ℕ). Some (spot.key, n)) (sym is_name)

pub row_past : (names : Names) (i : ℕ) → length names.spots.items ≤ i → None ≡ slice_get (names_view names) i
row_past names i le = sym (view_past names.text names.spots.items i le)

pub rows_long : (names : Names) → length names.spots.items ≡ length (names_view names)
rows_long names = sym (length-map names.spots.items (spot_view names.text))

-- the numbers
keys_view : (block : List ℕ) (xs : List Spot) → keys_of (spots_view block xs) ≡ keys_in xs
keys_view block [] = refl
keys_view block (x ∷ xs) = ap (λ (l : List ℕ). x.key ∷ l) (keys_view block xs)

pub keys_more : (xs : List Spot) (i : ℕ) (d : Spot) (keys : List ℕ) → i < length xs → keys ≡ keys_in (take i xs) ++ (get_or xs i d).key ∷ [] → keys ≡ keys_in (take (i + 1) xs)
keys_more xs i d keys less is = is ∙ sym (ap keys_in (take_more xs i d less) ∙ map-append (λ (s : Spot). s.key) (take i xs) (get_or xs i d ∷ []))

pub all_keys : (names : Names) (i : ℕ) (keys : List ℕ) → length names.spots.items ≤ i → keys ≡ keys_in (take i names.spots.items) → keys ≡ keys_of (names_view names)
all_keys names i keys le is = is ∙ ap keys_in (take_all i names.spots.items le) ∙ sym (keys_view names.text names.spots.items)

-- a search in the numbers
module _ (names : Names) (spots : List Spot) (same : spots ≡ names.spots.items) (rises : RisesFrom 0 (names_view names)) where
  keys_are : keys_of (names_view names) ≡ keys_in spots
  keys_are = keys_view names.text names.spots.items ∙ ap keys_in (sym same)

  pub rises_rows : RisesKeys (keys_in spots)
  rises_rows = subst RisesKeys keys_are (rises_keys 0 (names_view names) rises)

  module _ (address : ℕ) where
    last_in : (i : ℕ) → IsLastUpTo (keys_in spots) address i → IsLastUpTo (keys_of (names_view names)) address i
    last_in i last = subst (λ (l : List ℕ). IsLastUpTo l address i) (sym keys_are) last

    pub found_near : (i : ℕ) (p : Pair) → IsLastUpTo (keys_in spots) address i → slice_get (names_view names) i ≡ Some p → IsNearest (names_view names) address p.1 (address - p.0)
    found_near i p last e = nearest_is (names_view names) address i p rises (last_in i last) e

    pub found_within : (i : ℕ) (p : Pair) → IsLastUpTo (keys_in spots) address i → slice_get (names_view names) i ≡ Some p → p.0 ≤ address
    found_within i p last e = within (names_view names) address i p (last_in i last) e

    pub found_none : NoneWithin (keys_in spots) address → NoneUpTo address (names_view names)
    found_none none = none_up_to (names_view names) address (subst (λ (l : List ℕ). NoneWithin l address) (sym keys_are) none)

    pub found_last : (i : ℕ) (p : Pair) → IsLastUpTo (keys_in spots) address i → slice_get (names_view names) i ≡ Some p → Some p ≡ last_up_to address (names_view names)
    found_last i p last e = last_found 0 (names_view names) address i p rises (last_in i last) e

    pub found_no_last : NoneWithin (keys_in spots) address → None ≡ last_up_to address (names_view names)
    found_no_last none = last_none (names_view names) address (subst (λ (l : List ℕ). NoneWithin l address) (sym keys_are) none)
