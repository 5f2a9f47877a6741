-- Names that get numbers while a condition is bound.
use Rattle.std.specs.Prelude.{◌≡◌, ℕ, List, Option, Some, slice_get}
use Rattle.trace_base.specs.declared.field.Field.{Field}
use Rattle.filter_truth.specs.Columns.{numbered}

-- each name keeps its number
abbrev pub Keeps : List (List ℕ) → List (List ℕ) → Type 0
Keeps old new = (number : ℕ) (name : List ℕ) → slice_get old number ≡ Some name → slice_get new number ≡ Some name

-- in a format of any fields, what is bound under these names is the same as with the fields in the places of their names,
-- whatever names are added
abbrev pub IsBound : {T : Type 0} → List (List ℕ) → ((ℕ → Option Field) → T) → (List Field → T) → Type 0
IsBound names bound bind = (fields : List Field) (later : List (List ℕ)) → Keeps names later → bound (numbered fields later) ≡ bind fields
