-- A filter, bound to the formats of a file: what it asks of the events of each.
use Rattle.std.specs.Prelude.{ℕ, Bool, true, false, List, map, Option, Some, None, slice_get, if◌then◌else◌}
use Rattle.trace_base.specs.declared.field.Field.{Field}
use Rattle.format_parse.specs.declared.format.EventFormat.{EventFormat}
use Rattle.filter_lang.specs.Filter.{FilterData}
use Rattle.filter_lang.specs.Tree.{Tree}
use Rattle.filter_truth.specs.Values.{is_true}
use Rattle.filter_truth.specs.Naming.{EventData, names_format}
use Rattle.filter_truth.specs.Bound.{BoundTree, bound_value, bind_tree}

-- not named; named without a condition; named, and this must be true
pub data BoundCondition : Type 0 where
  unnamed : BoundCondition
  always : BoundCondition
  where_true : BoundTree → BoundCondition

abbrev pub condition_true : BoundCondition → EventData → Bool
condition_true unnamed e = false
condition_true always e = true
condition_true (where_true t) e = is_true (bound_value e t)

abbrev pub option_true : Option BoundCondition → EventData → Bool
option_true None e = false
option_true (Some c) e = condition_true c e

-- whether the filter holds at an event of the format at this place
abbrev pub bound_holds : List BoundCondition → ℕ → EventData → Bool
bound_holds conditions i e = option_true (slice_get conditions i) e

abbrev pub bind_cond : Option Tree → List Field → BoundCondition
bind_cond None fields = always
bind_cond (Some t) fields = where_true (bind_tree fields t)

abbrev pub bind_format : FilterData → EventFormat → BoundCondition
bind_format f format = if names_format f.events format then bind_cond f.cond format.fields else unnamed

unfoldable pub bind_filter : FilterData → List EventFormat → List BoundCondition
bind_filter f formats = map (bind_format f) formats
