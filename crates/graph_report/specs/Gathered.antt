-- What the reached items of a trace are for the calls.
use Rattle.std.specs.Prelude.{ℕ, List, reverse, option_to_list}
use Rattle.std.specs.List.{flat_map}
use Rattle.trace_base.specs.declared.layout.Layout.{Layout}
use Rattle.trace_base.specs.declared.part.Part.{Part}
use Rattle.subpage.specs.Arrangement.{Keyed}
use Rattle.subpage.specs.Cut.{reached_of}
pub use Rattle.item_pass.specs.Gathering.{cut_place}
use Rattle.report_print.specs.ContextData.{ContextData}
use Rattle.call_pairs.specs.declared.graph_item.GraphItem.{GraphItem}
use Rattle.call_pairs.specs.declared.call.Call.{Call}
use Rattle.call_pairs.specs.declared.tracing.Tracing.{Tracing}
use Rattle.call_pairs.specs.Calls.{calls_of}
use Rattle.call_pairs.specs.Tracings.{IsTracing}
use Rattle.graph_report.specs.Roles.{seen_of}

-- what is seen of an item
abbrev pub seen_at : ContextData → Keyed → List GraphItem
seen_at given x = option_to_list (seen_of given x.cpu x.item)

-- what is seen of items, in their order; the others are left out
abbrev pub seen_in : ContextData → List Keyed → List GraphItem
seen_in given xs = flat_map (seen_at given) xs

-- the calls of the items that a file's parts reach
abbrev pub reached_calls : ContextData → Layout → List ℕ → List (ℕ × Part) → List Call
reached_calls given layout file parts = calls_of (seen_in given (reached_of layout file parts))

-- A tracing after these were seen, in their order.
abbrev pub HasSeen : List GraphItem → Tracing → Type 0
HasSeen seen tracing = IsTracing (reverse seen) tracing
