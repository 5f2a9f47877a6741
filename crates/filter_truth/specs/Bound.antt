-- A condition for the events of one format, with the fields in the places of their names.
use Rattle.std.specs.Prelude.{ℕ, List, Option, Some, None, pos, bytes_eq, codes, if◌then◌else◌}
use Rattle.trace_base.specs.declared.field.Field.{Field}
use Rattle.trace_base.specs.Fields.{field_named}
use Rattle.c_operators.specs.declared.binary.BinaryOp.{BinaryOp}
use Rattle.filter_lang.specs.declared.expr.FilterPrefix.{FilterPrefix}
use Rattle.filter_lang.specs.Tree.{Tree, number, text, field, prefix, chain, Operands, no_operands, operand}
use Rattle.filter_truth.specs.Values.{ValueData, a_number, a_text, absent, binary, prefixed}
use Rattle.filter_truth.specs.Naming.{EventData, field_value}

mutual
  pub data BoundTree : Type 0 where
    b_number : ℕ → BoundTree
    b_text : List ℕ → BoundTree
    b_task : BoundTree
    b_cpu : BoundTree
    b_absent : BoundTree
    b_field : Field → BoundTree
    b_prefix : FilterPrefix → BoundTree → BoundTree
    b_chain : BoundTree → BoundRow → BoundTree

  pub data BoundRow : Type 0 where
    b_end : BoundRow
    b_more : BinaryOp → BoundTree → BoundRow → BoundRow

-- its value at an event of the format
abbrev mutual
  pub bound_value : EventData → BoundTree → ValueData
  bound_value e (b_number n) = a_number (pos n)
  bound_value e (b_text bytes) = a_text bytes
  bound_value e b_task = a_text e.task
  bound_value e b_cpu = a_number (pos e.cpu)
  bound_value e b_absent = absent
  bound_value e (b_field f) = field_value e f
  bound_value e (b_prefix op of) = prefixed op (bound_value e of)
  bound_value e (b_chain first rest) = bound_along e (bound_value e first) rest

  pub bound_along : EventData → ValueData → BoundRow → ValueData
  bound_along e v b_end = v
  bound_along e v (b_more op value rest) = bound_along e (binary op v (bound_value e value)) rest

abbrev pub bind_field : Option Field → BoundTree
bind_field None = b_absent
bind_field (Some f) = b_field f

abbrev pub bind_name : List Field → List ℕ → BoundTree
bind_name fields name =
    if bytes_eq name (codes "COMM") then b_task
    else (if bytes_eq name (codes "CPU") then b_cpu else bind_field (field_named name fields))

abbrev mutual
  pub bind_tree : List Field → Tree → BoundTree
  bind_tree fields (number n) = b_number n
  bind_tree fields (text bytes) = b_text bytes
  bind_tree fields (field name) = bind_name fields name
  bind_tree fields (prefix op t) = b_prefix op (bind_tree fields t)
  bind_tree fields (chain t rest) = b_chain (bind_tree fields t) (bind_row fields rest)

  pub bind_row : List Field → Operands → BoundRow
  bind_row fields no_operands = b_end
  bind_row fields (operand op t rest) = b_more op (bind_tree fields t) (bind_row fields rest)
