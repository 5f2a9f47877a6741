-- What an item of a trace is for the calls. Source: the formats of the kernel's function graph tracer (trace_entries.h,
-- `funcgraph_entry` and `funcgraph_exit`).
use Rattle.std.specs.Prelude.{ℕ, ◌-ℤ◌, ◌%◌, ◌^◌, if◌then◌else◌, List, codes, Option, Some, None}
use Rattle.std.specs.Option.{option_map_or}
use Rattle.std.specs.Str.{bytes_eq}
use Rattle.std.specs.Int.{cast_unsigned, w128}
use Rattle.trace_base.specs.declared.order.Order.{Order}
use Rattle.trace_base.specs.declared.field.Field.{Field}
use Rattle.trace_base.specs.Fields.{field_named}
use Rattle.format_parse.specs.declared.format.EventFormat.{EventFormat}
use Rattle.format_parse.specs.Table.{format_at}
use Rattle.subpage.specs.ItemData.{ItemData, EventAt, LossAt}
use Rattle.report_print.specs.ContextData.{ContextData}
use Rattle.report_print.specs.Line.{id_of, common_in}
use Rattle.report_print.specs.NumberFields.{of_counted, of_number, number_at, low_32}
use Rattle.report_print.specs.declared.number_field.NumberField.{NumberField}
use Rattle.call_pairs.specs.declared.graph_item.GraphEvent.{GraphEvent}
use Rattle.call_pairs.specs.declared.graph_item.GraphItem.{GraphItem}
use Rattle.call_pairs.specs.declared.graph_item.GraphItem.TheVariants as seen
use Rattle.call_pairs.specs.Durations.{clip}
use Rattle.graph_report.specs.declared.role.Called.{Called}
use Rattle.graph_report.specs.declared.role.Times.{Times}
use Rattle.graph_report.specs.declared.role.Role.{Role}
use Rattle.graph_report.specs.declared.role.Role.TheVariants.{Enters, Leaves, Other}

-- the function and its depth, which both kinds of event have: the first field of each name counts
abbrev pub called_by : Option NumberField → Option NumberField → Option Called
called_by None depth = None
called_by (Some func) None = None
called_by (Some func) (Some depth) = Some (record { func = func; depth = depth })

unfoldable pub called_in : List Field → Option Called
called_in fields = called_by (of_counted (field_named (codes "func") fields)) (of_counted (field_named (codes "depth") fields))

-- when a call began and ended, where an exit tells both
abbrev pub times_by : Option NumberField → Option NumberField → Option Times
times_by None to = None
times_by (Some from) None = None
times_by (Some from) (Some to) = Some (record { from = from; to = to })

unfoldable pub times_in : List Field → Option Times
times_in fields = times_by (of_number (field_named (codes "calltime") fields)) (of_number (field_named (codes "rettime") fields))

-- the events of the system `ftrace` by their names; other events are nothing for the calls
abbrev pub entering : Option Called → Role
entering None = Other
entering (Some called) = Enters called

abbrev pub leaving : Option Called → Option Times → Role
leaving None times = Other
leaving (Some called) times = Leaves called times

unfoldable pub role_named : List ℕ → List Field → Role
role_named name fields =
    if bytes_eq name (codes "funcgraph_entry") then entering (called_in fields)
    else if bytes_eq name (codes "funcgraph_exit") then leaving (called_in fields) (times_in fields)
    else Other

unfoldable pub role_of : EventFormat → Role
role_of format = if bytes_eq format.system (codes "ftrace") then role_named format.name format.fields else Other

abbrev pub role_by : Option EventFormat → Role
role_by format = option_map_or role_of format Other

-- an event of such a format: its function modulo 2^64, and its depth modulo 2^32
abbrev pub graph_event : ContextData → ℕ → ℕ → List ℕ → Called → GraphEvent
graph_event given cpu time payload called = record {
  cpu = cpu;
  time = time;
  common = common_in given payload;
  depth = low_32 given.show.order payload called.depth;
  func = cast_unsigned w128 (number_at given.show.order payload called.func) % 2 ^ 64;
}

-- the duration of the call by the exit's own fields, from 0 to 2^64 - 1 nanoseconds
abbrev pub recorded_duration : Order → List ℕ → Option Times → Option ℕ
recorded_duration order payload None = None
recorded_duration order payload (Some times) = Some (clip (number_at order payload times.to -ℤ number_at order payload times.from))

abbrev pub seen_as : ContextData → ℕ → ℕ → List ℕ → Role → Option GraphItem
seen_as given cpu time payload (Enters called) = Some (seen.Entry (graph_event given cpu time payload called))
seen_as given cpu time payload (Leaves called times) =
    Some (seen.Exit (graph_event given cpu time payload called) (recorded_duration given.show.order payload times))
seen_as given cpu time payload Other = None

-- an event by its format
abbrev pub event_seen : ContextData → ℕ → ℕ → List ℕ → Option GraphItem
event_seen given cpu time payload = seen_as given cpu time payload (role_by (format_at (id_of given payload) given.formats))

-- such an event, and every loss
unfoldable pub seen_of : ContextData → ℕ → ItemData → Option GraphItem
seen_of given cpu (EventAt time payload) = event_seen given cpu time payload
seen_of given cpu (LossAt time count) = Some (seen.Loss cpu count)
