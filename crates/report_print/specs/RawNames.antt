-- The names of the events whose fields are shown as they are, as a set.
use Rattle.std.specs.Prelude.{◌≡◌, ℕ, List}
use Rattle.std.specs.List.{list_any}
use Rattle.std.specs.Str.{bytes_eq}

-- each name is found among the keys just where it is one of these
abbrev pub IsSetOf : {K : Type 0} → List K → (K → List ℕ) → List (List ℕ) → Type 0
IsSetOf keys bytes names = (name : List ℕ) → list_any (λ k. bytes_eq name (bytes k)) keys ≡ list_any (bytes_eq name) names
