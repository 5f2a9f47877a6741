-- What items are for the latencies: events by their formats.
-- Source: the kernel's Documentation/trace/events.rst, for the events of the scheduler; trace-cmd-report(1), `-w`.
use Rattle.std.specs.Prelude.{ℕ, ◌||◌, if◌then◌else◌, List, codes, map, Option, Some, None}
use Rattle.std.specs.Option.{option_map_or}
use Rattle.std.specs.Str.{bytes_eq}
use Rattle.trace_base.specs.declared.field.Field.{Field}
use Rattle.subpage.specs.ItemData.{ItemData, EventAt, LossAt}
use Rattle.subpage.specs.Arrangement.{Keyed}
use Rattle.format_parse.specs.declared.format.EventFormat.{EventFormat}
use Rattle.format_parse.specs.Table.{format_at}
use Rattle.report_print.specs.declared.number_field.NumberField.{NumberField}
use Rattle.report_print.specs.NumberFields.{of_number, signed_32}
use Rattle.trace_base.specs.Fields.{field_named}
use Rattle.report_print.specs.ContextData.{ContextData}
use Rattle.report_print.specs.Line.{id_of, common_in}
use Rattle.wakeup_pairs.specs.declared.wakeup_item.WakeupItem.{WakeupItem}
use Rattle.wakeup_pairs.specs.declared.wakeup_item.WakeupItem.TheVariants as seen
use Rattle.wakeup_lat.specs.declared.role.Role.{Role}
use Rattle.wakeup_lat.specs.declared.role.Role.TheVariants.{Wakes, Switches, Other}

abbrev pub waking : Option NumberField → Role
waking None = Other
waking (Some field) = Wakes field

abbrev pub switching : Option NumberField → Role
switching None = Other
switching (Some field) = Switches field

-- the scheduler's events: a wake-up is for the task in `pid`, a switch for that in `next_pid`; the first field of the name
-- counts, and where that is no number the event is neither
unfoldable pub named_role : List ℕ → List Field → Role
named_role name fields =
    if bytes_eq name (codes "sched_wakeup") || bytes_eq name (codes "sched_wakeup_new") then waking (of_number (field_named (codes "pid") fields))
    else if bytes_eq name (codes "sched_switch") then switching (of_number (field_named (codes "next_pid") fields))
    else Other

abbrev pub role_of : EventFormat → Role
role_of format = if bytes_eq format.system (codes "sched") then named_role format.name format.fields else Other

abbrev pub role_by : Option EventFormat → Role
role_by format = option_map_or role_of format Other

-- what an event is, by the format of its number
abbrev pub role_in : ContextData → List ℕ → Role
role_in given payload = role_by (format_at (id_of given payload) given.formats)

-- with its task, its processor and its own time
abbrev pub seen_as : ContextData → ℕ → ℕ → List ℕ → Role → WakeupItem
seen_as given cpu time payload (Wakes field) =
    seen.Wakes (record { task = signed_32 given.show.order payload field; time = time })
seen_as given cpu time payload (Switches field) = seen.Switches (record {
  task = signed_32 given.show.order payload field;
  cpu = cpu;
  time = time;
  common = common_in given payload;
})
seen_as given cpu time payload Other = seen.Other

-- what an item of a processor is
unfoldable pub seen_in : ContextData → ℕ → ItemData → WakeupItem
seen_in given cpu (EventAt time payload) = seen_as given cpu time payload (role_in given payload)
seen_in given cpu (LossAt time count) = seen.Lost

abbrev pub seen_of : ContextData → Keyed → WakeupItem
seen_of given x = seen_in given x.cpu x.item

-- what is seen of items, shown or not
abbrev pub all_seen : ContextData → List Keyed → List WakeupItem
all_seen given xs = map (seen_of given) xs
