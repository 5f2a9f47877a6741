-- What names stand for in the formats: a column for each name, with the field of each format.
use Rattle.std.specs.Prelude.{ℕ, ◌-◌, ◌==◌, List, map, Option, None, slice_get, if◌then◌else◌}
use Rattle.std.specs.Option.{option_and_then, option_flatten}
use Rattle.trace_base.specs.declared.field.Field.{Field}
use Rattle.trace_base.specs.Fields.{field_named}

-- the field at a place that is counted from 1
abbrev pub field_placed : List Field → ℕ → Option Field
field_placed fields place = if place == 0 then None else slice_get fields (place - 1)

-- the column of a name, by the fields of the formats in question
abbrev pub column_in : List (Option (List Field)) → List ℕ → List (Option Field)
column_in named name = map (option_and_then (field_named name)) named

-- what the name of a number stands for in the format at a place
abbrev pub field_at : List (List (Option Field)) → ℕ → ℕ → Option Field
field_at columns format number = option_and_then (λ column. option_flatten (slice_get column format)) (slice_get columns number)

-- the same in a format of these fields, by the names
abbrev pub numbered : List Field → List (List ℕ) → ℕ → Option Field
numbered fields names number = option_and_then (λ name. field_named name fields) (slice_get names number)
