-- The formats of a table, whose fields are found by their names.
use Rattle.std.specs.Prelude.{List, map, Option, Some, None, if◌then◌else◌}
use Rattle.trace_base.specs.declared.field.Field.{Field}
use Rattle.format_parse.specs.declared.format.EventFormat.{EventFormat}
use Rattle.filter_lang.specs.Filter.{EventNameData}
use Rattle.filter_truth.specs.Naming.{names_format}
use Rattle.filter_truth.specs.declared.named_format.NamedFormat.{NamedFormat}

abbrev pub formats_of : List NamedFormat → List EventFormat
formats_of named = map (λ n. n.format.now) named

-- the fields of a format that the names name
abbrev pub named_by : List EventNameData → EventFormat → Option (List Field)
named_by events format = if names_format events format then Some format.fields else None
