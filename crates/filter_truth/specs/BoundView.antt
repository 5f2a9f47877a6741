-- The plain form of what is bound. At each format the number of a name stands for a field.
use Rattle.std.specs.Prelude.{ℕ, suc, Bool, false, List, [], ◌∷◌, Option, Some, None, slice_get, unwrap_or, if◌then◌else◌}
use Rattle.trace_base.specs.declared.field.Field.{Field}
use Rattle.filter_truth.specs.Bound.{BoundTree, BoundRow, b_number, b_text, b_task, b_cpu, b_prefix, b_chain, b_end, b_more, bind_field}
use Rattle.filter_truth.specs.BoundFilter.{BoundCondition, unnamed, always, where_true}
use Rattle.filter_truth.specs.Columns.{field_at}
use Rattle.filter_truth.specs.declared.filter.Bound.{Bound}
use Rattle.filter_truth.specs.declared.bound_expr.BoundExpr.{BoundExpr, Number, Text, Task, Cpu, Named, Prefix', Chain', Row_of-BoundOperand, end_of-BoundOperand, more_of-BoundOperand}
use Rattle.filter_truth.specs.declared.bound_expr.BoundOperand.{BoundOperand}

abbrev mutual
  pub bound_of : (ℕ → Option Field) → BoundExpr → BoundTree
  bound_of at (Number n) = b_number n
  bound_of at (Text bytes) = b_text bytes
  bound_of at Task = b_task
  bound_of at Cpu = b_cpu
  bound_of at (Named number) = bind_field (at number)
  bound_of at (Prefix' op p of) = b_prefix op (bound_of at of)
  bound_of at (Chain' p first shape rest) = b_chain (bound_of at first) (bound_in at rest)

  pub bound_in : (ℕ → Option Field) → {m : _} → Row_of-BoundOperand m → BoundRow
  bound_in at end_of-BoundOperand = b_end
  bound_in at (more_of-BoundOperand op value rest) = b_more op (bound_of at value) (bound_in at rest)

abbrev pub bound_row : (ℕ → Option Field) → List BoundOperand → BoundRow
bound_row at [] = b_end
bound_row at (o ∷ os) = b_more o.op (bound_of at o.value) (bound_row at os)

-- what is asked of the events of a format that is named
abbrev pub asked : Option BoundExpr → (ℕ → Option Field) → BoundCondition
asked None at = always
asked (Some expr) at = where_true (bound_of at expr)

-- whether the format at a place is named
abbrev pub is_named_at : Bound → ℕ → Bool
is_named_at b format = unwrap_or (slice_get b.named.items format) false

abbrev pub condition_at : Option BoundExpr → List (List (Option Field)) → ℕ → Bool → BoundCondition
condition_at cond columns format named = if named then asked cond (field_at columns format) else unnamed

-- of the formats from a place on
abbrev pub conditions_from : Option BoundExpr → List (List (Option Field)) → ℕ → List Bool → List BoundCondition
conditions_from cond columns format [] = []
conditions_from cond columns format (named ∷ rest) = condition_at cond columns format named ∷ conditions_from cond columns (suc format) rest

abbrev pub conditions_of : Bound → List BoundCondition
conditions_of b = conditions_from b.cond b.columns.items 0 b.named.items
