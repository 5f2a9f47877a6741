-- Names by numbers: symbols and texts by their addresses, names of tasks by their pids. A finite map is the list of its pairs
-- by rising numbers.
use Rattle.std.specs.Prelude.{◌≡◌, ⊤, ℕ, ◌+◌, ◌-◌, ◌<◌, ◌≤◌, nat_eq, nat_lt, nat_le, if◌then◌else◌, List, [], ◌∷◌, Option, Some, None}
use Rattle.std.specs.Map.{lookup}
use Rattle.std.specs.Option.{option_or, option_map}

abbrev pub Pair : Type 0
Pair = ℕ × List ℕ

-- the name that stands first beside this number
abbrev pub first_at : ℕ → List Pair → Option (List ℕ)
first_at key pairs = lookup (nat_eq key) pairs

-- the name of a pair, if it is that of this number
abbrev pub name_if : ℕ → Option Pair → Option (List ℕ)
name_if key None = None
name_if key (Some p) = if nat_eq p.0 key then Some p.1 else None

-- each number is above the one before it, and the first is not below this one
abbrev pub RisesFrom : ℕ → List Pair → Type 0
RisesFrom low [] = ⊤
RisesFrom low (p ∷ ps) = (low ≤ p.0) × RisesFrom (p.0 + 1) ps

-- at each number both have the same first name
abbrev pub SamePairs : List Pair → List Pair → Type 0
SamePairs pairs others = (key : ℕ) → first_at key others ≡ first_at key pairs

-- The map that pairs stand for, of those with one number the first: its numbers rise, and at each it has what they have.
pub record IsMapOf (pairs rows : List Pair) : Type 0 where
  pub rises : RisesFrom 0 rows
  pub same : SamePairs pairs rows

-- the map with this pair in it, in place of one with the same number
abbrev pub put : Pair → List Pair → List Pair
put p [] = p ∷ []
put p (q ∷ qs) = if nat_lt p.0 q.0 then p ∷ q ∷ qs else (if nat_eq p.0 q.0 then p ∷ qs else q ∷ put p qs)

-- the same map, computed
unfoldable pub map_of : List Pair → List Pair
map_of [] = []
map_of (p ∷ ps) = put p (map_of ps)

-- the name of the greatest number that is at most this one, and how far past it this one is
pub record IsNearest (rows : List Pair) (address : ℕ) (name : List ℕ) (behind : ℕ) : Type 0 where
  pub at : ℕ
  pub is : at + behind ≡ address
  pub named : first_at at rows ≡ Some name
  pub none_between : (other : ℕ) → at < other → other ≤ address → first_at other rows ≡ None

-- no number is at most this one
abbrev pub NoneUpTo : ℕ → List Pair → Type 0
NoneUpTo address rows = (other : ℕ) → other ≤ address → first_at other rows ≡ None

-- the same name and distance, computed: of rising numbers the last that is at most this one
abbrev pub last_up_to : ℕ → List Pair → Option Pair
last_up_to address [] = None
last_up_to address (p ∷ ps) = if nat_le p.0 address then option_or (last_up_to address ps) (Some p) else None

unfoldable pub nearest : ℕ → List Pair → Option (List ℕ × ℕ)
nearest address rows = option_map (λ p. (p.1, address - p.0)) (last_up_to address rows)

-- pairs stand for a map, which is the computed one
abbrev pub HasMap : Type 0
HasMap = (pairs : List Pair) → IsMapOf pairs (map_of pairs)

-- and for no other
abbrev pub OneMap : Type 0
OneMap = (pairs rows : List Pair) → IsMapOf pairs rows → rows ≡ map_of pairs
