-- The tree that stands at a place, computed.
use Rattle.std.specs.Prelude.{ℕ, zero, suc, ◌+◌, max, List, [], ◌∷◌, length, Option, Some, None, option_map, nat_lt, ◌==◌, codes, if◌then◌else◌}
use Rattle.fmt_literal.specs.declared.ckind.CKind.{CKind}
use Rattle.fmt_literal.specs.Types.{cast_of, size_of, unsigned_long}
use Rattle.trace_base.specs.declared.field.Field.{Field}
use Rattle.fmt_expr.specs.Tree.{Tree, number, literal, prefix, cast, element, chain, choice, flags, symbolic, hex, array, Operands, no_operands, operand, Entries, no_entries, entry}
use Rattle.fmt_expr.specs.Kinds.{is_number, is_alike, has_bytes}
use Rattle.fmt_expr.specs.Source.{Source, constant_at, is_mark}
use Rattle.fmt_expr.specs.Heads.{head_at}
use Rattle.fmt_expr.specs.Ops.{op_at}
use Rattle.fmt_expr.specs.Texts.{text_at}
use Rattle.fmt_expr.specs.Types.{TypeName, closed_type}
use Rattle.fmt_expr.specs.Fields.{field_tree, got_tree, is_indexed, named_at, dynamic_at}
use Rattle.trace_base.specs.OptionSteps.{◌>>=◌}
use Rattle.fmt_expr.specs.Steps.{◌>>◌}
use Rattle.c_operators.specs.declared.binary.BinaryOp.{BinaryOp}
use Rattle.fmt_expr.specs.declared.expr.PrefixOp.{PrefixOp}
use Rattle.fmt_expr.specs.declared.head.Got.{Got}
use Rattle.fmt_expr.specs.declared.head.Builtin.{Builtin}
use Rattle.fmt_expr.specs.declared.head.Builtin.TheVariants.{Get, SizeOf, Flags, Symbolic, Hex, Array}
use Rattle.fmt_expr.specs.declared.head.Head.{Head}
use Rattle.fmt_expr.specs.declared.head.Head.TheVariants.{Operator, Open, Record, Builtin as Called, Other}

-- a tree, how deep it nests, and the place after it
pub record Found : Type 0 where
  pub tree : Tree
  pub nest : ℕ
  pub next : ℕ

pub record Row : Type 0 where
  pub operands : Operands
  pub nest : ℕ
  pub next : ℕ

abbrev pub found : Tree → ℕ → ℕ → Found
found tree nest next = record { tree = tree; nest = nest; next = next }

abbrev pub row : Operands → ℕ → ℕ → Row
row operands nest next = record { operands = operands; nest = nest; next = next }

-- what stands at a place, if it is of a sort
abbrev pub Read : Type 0
Read = ℕ → Option Found

abbrev pub with_operand : BinaryOp → Found → Row → Row
with_operand op x r = row (operand op x.tree r.operands) (max x.nest r.nest) r.next

-- a row goes on as long as there is an operator of the level
abbrev pub row_step : Read → (ℕ → Option Row) → ℕ → Option BinaryOp → Option Row
row_step read more i None = Some (row no_operands 0 i)
row_step read more i (Some op) = do
  x ← read (i + 1)
  is_number x.tree
  option_map (with_operand op x) (more x.next)

-- The number bounds the turns: that of the tokens is enough.
unfoldable pub row_at : Source → Read → ℕ → ℕ → ℕ → Option Row
row_at s read level zero i = None
row_at s read level (suc n) i = row_step read (row_at s read level n) i (op_at s level i)

-- the operands of a row, which is no row without them
abbrev pub joined_with : Found → ℕ → ℕ → Operands → Option Found
joined_with x nest next no_operands = Some x
joined_with x nest next (operand op t rest) = is_number x.tree >> Some (found (chain x.tree (operand op t rest)) nest next)

abbrev pub joined : Found → Row → Option Found
joined x r = joined_with x (max x.nest r.nest) r.next r.operands

-- the row of a level after its first operand
unfoldable pub row_behind : Source → Read → ℕ → Found → Option Found
row_behind s read level x = row_at s read level (length s.tokens + 1) x.next >>= joined x

-- the operators of a level and of those below it
unfoldable pub level_at : Source → Read → ℕ → Read
level_at s read zero i = read i
level_at s read (suc level) i = level_at s read level i >>= row_behind s (level_at s read level) (suc level)

-- the rows of a level and of those below it, after what stands before all operators
unfoldable pub rows_behind : Source → Read → ℕ → Found → Option Found
rows_behind s read zero x = Some x
rows_behind s read (suc level) x = rows_behind s read level x >>= row_behind s (level_at s read level) (suc level)

-- a conditional, from its question mark on; its parts are one level deeper
unfoldable pub choice_at : Source → ℕ → Read → Found → Option Found
choice_at s left inner test = do
  nat_lt test.nest left
  is_number test.tree
  one ← inner (test.next + 1)
  is_mark s one.next (codes ":")
  other ← inner (one.next + 1)
  is_alike one.tree other.tree
  Some (found (choice test.tree one.tree other.tree) (1 + max test.nest (max one.nest other.nest)) other.next)

unfoldable pub cond_with : Source → ℕ → Read → Read → Read
cond_with s left or inner i = do
  test ← or i
  if is_mark s test.next (codes "?") then choice_at s left inner test else Some test

-- a number with this mark after it
unfoldable pub number_before : Source → Read → List ℕ → Read
number_before s inner mark i = do
  x ← inner i
  is_number x.tree
  is_mark s x.next mark
  Some x

-- an element, from its square bracket on
unfoldable pub element_at : Source → Read → ℕ → Field → Option Found
element_at s inner i f = do
  is_indexed f.kind f.element
  x ← number_before s inner (codes "]") (i + 4)
  Some (found (element f x.tree) (1 + x.nest) (x.next + 1))

unfoldable pub field_at : Source → Read → Read
field_at s inner i = do
  f ← named_at s i
  if is_mark s (i + 3) (codes "[") then element_at s inner i f else Some (found (field_tree f f.kind) 0 (i + 3))

-- a cast, from just after its type
unfoldable pub cast_at : Source → Read → TypeName → Option Found
cast_at s inner type = do
  x ← inner (type.next + 1)
  Some (found (cast (cast_of type.words type.stars s.long) x.tree) (1 + x.nest) x.next)

unfoldable pub bracket_at : Source → Read → Read
bracket_at s inner i = do
  x ← inner (i + 1)
  is_mark s x.next (codes ")")
  Some (found x.tree (1 + x.nest) (x.next + 1))

unfoldable pub prefixed_at : Read → PrefixOp → Read
prefixed_at inner op i = do
  x ← inner (i + 1)
  is_number x.tree
  Some (found (prefix op x.tree) (1 + x.nest) x.next)

-- a value with its text, and a row of them
pub record Valued : Type 0 where
  pub value : Tree
  pub text : List ℕ
  pub nest : ℕ
  pub next : ℕ

pub record Listed : Type 0 where
  pub entries : Entries
  pub nest : ℕ
  pub next : ℕ

abbrev pub valued : Tree → List ℕ → ℕ → ℕ → Valued
valued value text nest next = record { value = value; text = text; nest = nest; next = next }

abbrev pub listed : Entries → ℕ → ℕ → Listed
listed entries nest next = record { entries = entries; nest = nest; next = next }

unfoldable pub entry_at : Source → Read → ℕ → Option Valued
entry_at s inner i = do
  is_mark s i (codes "{")
  x ← number_before s inner (codes ",") (i + 1)
  text ← text_at s (x.next + 1)
  is_mark s text.next (codes "}")
  Some (valued x.tree text.text x.nest (text.next + 1))

abbrev pub with_entry : Valued → Listed → Listed
with_entry e r = listed (entry e.value e.text r.entries) (max e.nest r.nest) r.next

-- further entries, each after a comma; the number bounds the turns
unfoldable pub tail_at : Source → Read → ℕ → ℕ → Option Listed
tail_at s inner zero i = None
tail_at s inner (suc m) i =
    if is_mark s i (codes ",") then (do
      e ← entry_at s inner (i + 1)
      option_map (with_entry e) (tail_at s inner m e.next))
    else Some (listed no_entries 0 i)

-- all entries from the first one on
unfoldable pub entries_behind : Source → Read → Valued → Option Listed
entries_behind s inner e = option_map (with_entry e) (tail_at s inner (length s.tokens + 1) e.next)

-- entries up to the bracket that closes a call, one or more
unfoldable pub entries_at : Source → Read → ℕ → Option Listed
entries_at s inner i = do
  e ← entry_at s inner i
  r ← entries_behind s inner e
  is_mark s r.next (codes ")")
  Some (listed r.entries r.nest (r.next + 1))

-- the first argument of a call, up to the comma after it
unfoldable pub argument_at : Source → Read → Read
argument_at s inner i = do
  is_mark s (i + 1) (codes "(")
  x ← inner (i + 2)
  is_mark s x.next (codes ",")
  Some (found x.tree x.nest (x.next + 1))

unfoldable pub flags_at : Source → Read → Read
flags_at s inner i = do
  x ← argument_at s inner i
  is_number x.tree
  between ← text_at s x.next
  is_mark s between.next (codes ",")
  r ← entries_at s inner (between.next + 1)
  Some (found (flags x.tree between.text r.entries) (1 + max x.nest r.nest) r.next)

unfoldable pub symbolic_at : Source → Read → Read
symbolic_at s inner i = do
  x ← argument_at s inner i
  is_number x.tree
  r ← entries_at s inner x.next
  Some (found (symbolic x.tree r.entries) (1 + max x.nest r.nest) r.next)

unfoldable pub hex_at : Source → Read → Read
hex_at s inner i = do
  x ← argument_at s inner i
  has_bytes x.tree
  y ← number_before s inner (codes ")") x.next
  Some (found (hex x.tree y.tree) (1 + max x.nest y.nest) (y.next + 1))

unfoldable pub array_at : Source → Read → Read
array_at s inner i = do
  x ← argument_at s inner i
  has_bytes x.tree
  y ← number_before s inner (codes ",") x.next
  z ← number_before s inner (codes ")") (y.next + 1)
  Some (found (array x.tree y.tree z.tree) (1 + max x.nest (max y.nest z.nest)) (z.next + 1))

unfoldable pub sized_at : Source → Read
sized_at s i = do
  is_mark s (i + 1) (codes "(")
  type ← closed_type s (i + 2)
  n ← size_of type.words type.stars s.long
  Some (found (number n (unsigned_long s.long)) 0 (type.next + 1))

-- a `__get_` call, whose field is one level deeper
unfoldable pub got_at : Source → ℕ → Got → Read
got_at s left get i = do
  nat_lt 0 left
  f ← dynamic_at s i
  Some (found (got_tree f get) 1 (i + 4))

abbrev pub constant_or : Source → ℕ → Option (ℕ × CKind) → Option Found
constant_or s i (Some c) = Some (found (number c.0 c.1) 0 (i + 1))
constant_or s i None = do
  text ← text_at s i
  Some (found (literal text.text) 0 text.next)

-- a number, a letter, or texts
unfoldable pub leaf_at : Source → Read
leaf_at s i = constant_or s i (constant_at s i)

-- what stands one level deeper
pub record Inner : Type 0 where
  pub unary : Read
  pub cond : Read

abbrev pub open_by : Source → Inner → ℕ → Option TypeName → Option Found
open_by s inner i (Some type) = cast_at s inner.unary type
open_by s inner i None = bracket_at s inner.cond i

unfoldable pub open_at : Source → Inner → Read
open_at s inner i = open_by s inner i (closed_type s (i + 1))

abbrev pub call_by : Source → ℕ → Inner → ℕ → Builtin → Option Found
call_by s left inner i (Get get) = got_at s left get i
call_by s left inner i SizeOf = sized_at s i
call_by s left inner i Flags = flags_at s inner.cond i
call_by s left inner i Symbolic = symbolic_at s inner.cond i
call_by s left inner i Hex = hex_at s inner.cond i
call_by s left inner i Array = array_at s inner.cond i

abbrev pub unary_by : Source → ℕ → Inner → ℕ → Head → Option Found
unary_by s left inner i (Operator op) = prefixed_at inner.unary op i
unary_by s left inner i Open = open_at s inner i
unary_by s left inner i Record = field_at s inner.cond i
unary_by s left inner i (Called call) = call_by s left inner i call
unary_by s left inner i Other = leaf_at s i

unfoldable pub unary_with : Source → ℕ → Inner → Read
unary_with s left inner i = unary_by s left inner i (head_at s i)

abbrev pub nothing : Inner
nothing = record { unary = λ i. None; cond = λ i. None }

abbrev pub top : ℕ
top = 10

unfoldable pub layer : Source → ℕ → Inner → Inner
layer s left inner = record { unary = unary_with s left inner; cond = cond_with s left (level_at s (unary_with s left inner) top) inner.cond }

-- what stands where so many levels are left
unfoldable pub within : Source → ℕ → Inner
within s zero = layer s zero nothing
within s (suc left) = layer s (suc left) (within s left)

-- what stands one level deeper, if there is one
unfoldable pub inner_of : Source → ℕ → Inner
inner_of s zero = nothing
inner_of s (suc left) = within s left

abbrev pub unary_at : Source → ℕ → Read
unary_at s left = (within s left).unary

abbrev pub cond_at : Source → ℕ → Read
cond_at s left = (within s left).cond

abbrev pub inner_unary : Source → ℕ → Read
inner_unary s left = (inner_of s left).unary

abbrev pub inner_cond : Source → ℕ → Read
inner_cond s left = (inner_of s left).cond

-- a print fmt without where it lies in memory
pub record FmtData : Type 0 where
  pub text : List ℕ
  pub args : List Tree
  pub long : ℕ

-- how deep an argument may nest
abbrev pub deepest : ℕ
deepest = 64

-- the arguments from a place to the end, each after a comma; the number bounds the turns
unfoldable pub args_at : Source → ℕ → ℕ → Option (List Tree)
args_at s zero i = None
args_at s (suc m) i =
    if i == length s.tokens then Some []
    else (do
      is_mark s i (codes ",")
      x ← cond_at s deepest (i + 1)
      option_map (λ ts. x.tree ∷ ts) (args_at s m x.next))

abbrev pub with_args : Source → List ℕ → List Tree → FmtData
with_args s text args = record { text = text; args = args; long = s.long }

unfoldable pub fmt_in : Source → Option FmtData
fmt_in s = do
  text ← text_at s 0
  option_map (with_args s text.text) (args_at s (length s.tokens) text.next)
