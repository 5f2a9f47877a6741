-- Where the first field of each name stands.
use Rattle.std.specs.Prelude.{◌≡◌, ℕ, List, slice_get, Option, option_and_then, Vec}
use Rattle.std.specs.BTreeMap.{BTreeMap, get_by}
use Rattle.std.specs.Cmp.Lexicographic.{slice_cmp}
use Rattle.std.specs.Ordering.{nat_cmp}
use Rattle.trace_base.specs.declared.field.Field.{Field}
use Rattle.trace_base.specs.Fields.{field_named}

-- the place that is kept for a name
abbrev pub place_of : {Z : Type 0} → BTreeMap (Vec ℕ Z) ℕ → List ℕ → Option ℕ
place_of places name = get_by (λ k. slice_cmp nat_cmp name k.items) places

-- what stands at the place of each name is the first field of that name
abbrev pub ArePlaces : {Z : Type 0} → List Field → BTreeMap (Vec ℕ Z) ℕ → Type 0
ArePlaces fields places = (name : List ℕ) → option_and_then (slice_get fields) (place_of places name) ≡ field_named name fields
