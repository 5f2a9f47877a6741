-- What is noted of the items of a trace, one after another.
use Rattle.std.specs.Prelude.{◌≡◌, List, ◌++◌, Option, Result, OnOk, map, option_to_list}
use Rattle.call_pairs.specs.declared.graph_item.GraphItem.{GraphItem}
use Rattle.call_pairs.specs.declared.tracing.Tracing.{Tracing}
use Rattle.graph_report.specs.declared.call_gatherer.CallGatherer.{CallGatherer}
use Rattle.graph_report.specs.Gathered.{HasSeen}
use Rattle.graph_report.specs.Roles.{role_of}

-- the roles are those of the context's formats
abbrev pub HasRoles : CallGatherer → Type 0
HasRoles gatherer = gatherer.roles.now ≡ map role_of gatherer.context.now.formats

-- this is noted after all before it, or nothing
abbrev pub Notes : {E : Type 0} → Option GraphItem → Tracing → Tracing → Result Unit E → Type 0
Notes seen before now result =
    (past : List GraphItem) → HasSeen past before → OnOk result (HasSeen (past ++ option_to_list seen) now)
