-- What the names in a filter mean: those of events, and those of fields.
use Rattle.std.specs.Prelude.{ℕ, Bool, true, false, ◌&&◌, ◌||◌, List, Option, Some, None, pos, bytes_eq, codes, if◌then◌else◌}
use Rattle.std.specs.List.{list_any}
use Rattle.trace_base.specs.declared.field.Field.{Field}
use Rattle.trace_base.specs.declared.field.FieldKind.{FieldKind}
use Rattle.trace_base.specs.declared.field.FieldKind.TheVariants.{Number, Pointer, Text, Bytes}
use Rattle.trace_base.specs.declared.order.Order.{Order}
use Rattle.trace_base.specs.Fields.{field_named, number_in, bytes_in}
use Rattle.trace_base.specs.Kept.{until_nul}
use Rattle.format_parse.specs.declared.format.EventFormat.{EventFormat}
use Rattle.filter_lang.specs.Filter.{EventNameData, FilterData}
use Rattle.filter_lang.specs.Tree.{Tree}
use Rattle.filter_truth.specs.Values.{ValueData, a_number, a_text, absent, is_true, value_of}

-- `A/B` names the event B of the system A; `A` alone names the events and the systems of that name
abbrev pub is_named : EventFormat → List ℕ → Option (List ℕ) → Bool
is_named format first None = bytes_eq format.name first || bytes_eq format.system first
is_named format first (Some second) = bytes_eq format.system first && bytes_eq format.name second

abbrev pub is_named_by : EventFormat → EventNameData → Bool
is_named_by format e = is_named format e.first e.second

abbrev pub names_format : List EventNameData → EventFormat → Bool
names_format events format = list_any (is_named_by format) events

-- what is known of an event: its record, its task's name and its processor
pub record EventData : Type 0 where
  pub order : Order
  pub payload : List ℕ
  pub task : List ℕ
  pub cpu : ℕ

abbrev pub kind_value : FieldKind → EventData → Field → ValueData
kind_value Number e field = a_number (number_in e.order e.payload field)
kind_value Pointer e field = a_number (number_in e.order e.payload field)
kind_value Text e field = a_text (until_nul (bytes_in e.order e.payload field))
kind_value Bytes e field = absent

abbrev pub field_value : EventData → Field → ValueData
field_value e field = kind_value field.kind e field

-- the value of a field that an event may lack
abbrev pub value_if : EventData → Option Field → ValueData
value_if e None = absent
value_if e (Some field) = field_value e field

-- `COMM` is the task's name and `CPU` the processor, whatever the fields' names
abbrev pub named_value : List Field → EventData → List ℕ → ValueData
named_value fields e name =
    if bytes_eq name (codes "COMM") then a_text e.task
    else (if bytes_eq name (codes "CPU") then a_number (pos e.cpu) else value_if e (field_named name fields))

-- without a condition all is true
abbrev pub condition_holds : Option Tree → List Field → EventData → Bool
condition_holds None fields e = true
condition_holds (Some t) fields e = is_true (value_of (named_value fields e) t)

-- the filter names the event's format, and its condition is true
abbrev pub filter_holds : FilterData → EventFormat → EventData → Bool
filter_holds f format e = names_format f.events format && condition_holds f.cond format.fields e

-- an event without a format is named by no filter
abbrev pub holds_at : FilterData → Option EventFormat → EventData → Bool
holds_at f None e = false
holds_at f (Some format) e = filter_holds f format e
