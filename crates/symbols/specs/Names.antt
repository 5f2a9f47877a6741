-- Names as they stand in a text, as plain data.
use Rattle.std.specs.Prelude.{◌≡◌, ⊤, ℕ, ◌+◌, ◌≤◌, List, [], ◌∷◌, ◌++◌, length, take, drop, map, All}
use Rattle.symbols.specs.declared.names.Names.{Names}
use Rattle.symbols.specs.declared.names.Span.{Span}
use Rattle.symbols.specs.declared.names.Spot.{Spot}
use Rattle.symbols.specs.NameMap.{Pair}

abbrev pub text_in : List ℕ → Span → List ℕ
text_in text span = take span.len (drop span.start text)

abbrev pub spot_view : List ℕ → Spot → Pair
spot_view text spot = (spot.key, text_in text spot.span)

abbrev pub spots_view : List ℕ → List Spot → List Pair
spots_view text spots = map (spot_view text) spots

abbrev pub names_view : Names → List Pair
names_view names = spots_view names.text names.spots.items

-- each name stands in the text
abbrev pub AreWithin : List ℕ → List Spot → Type 0
AreWithin text spots = All (λ (s : Spot). s.span.start + s.span.len ≤ length text) spots

abbrev pub AreInside : Names → Type 0
AreInside names = AreWithin names.text names.spots.items

-- a text begins with this one
abbrev pub BeginsWith : List ℕ → List ℕ → Type 0
BeginsWith text front = (more : List ℕ) × (text ≡ front ++ more)

-- a text ends with this one
abbrev pub EndsWith : List ℕ → List ℕ → Type 0
EndsWith text end = (front : List ℕ) × (text ≡ front ++ end)

-- no number is below the one before it, nor below this one
abbrev pub IsFrom : ℕ → List Pair → Type 0
IsFrom low [] = ⊤
IsFrom low (p ∷ ps) = (low ≤ p.0) × IsFrom p.0 ps

abbrev pub IsSortedPairs : List Pair → Type 0
IsSortedPairs pairs = IsFrom 0 pairs
