-- What is known of a tree before any record is read: how its number is read, and how it is tested.
use Rattle.std.specs.Prelude.{◌≡◌, ℕ, Bool, false, ◌==◌, ◌&&◌, if◌then◌else◌}
use Rattle.trace_base.specs.declared.field.Field.{Field}
use Rattle.trace_base.specs.Fields.{is_number, has_number, sized, unsigned_in}
use Rattle.fmt_literal.specs.declared.cast_to.CastTo.{CastTo}
use Rattle.fmt_literal.specs.declared.cast_to.CastTo.TheVariants.{Bits, Truth, Same}
use Rattle.fmt_expr.specs.Tree.{Tree, Operands, no_operands, operand}
use Rattle.c_operators.specs.declared.binary.BinaryOp.{BinaryOp}
use Rattle.c_operators.specs.declared.binary.BinaryOp.TheVariants.{BitAnd}
use Rattle.fmt_expr.specs.Tree as tree
use Rattle.fmt_eval.specs.Numbers.{Number, number, reduced, is_true}
use Rattle.fmt_eval.specs.NumView.{num_view}
use Rattle.fmt_eval.specs.Operators.{applied}
use Rattle.fmt_eval.specs.Values.{RecData, sized_kind, number_of}
use Rattle.fmt_eval.specs.declared.num.Num.{Num}
use Rattle.fmt_eval.specs.declared.read.Read.{Read}
use Rattle.fmt_eval.specs.declared.read.Read.TheVariants.{Half, Whole, Walk}
use Rattle.fmt_eval.specs.declared.read.Test.{Test}
use Rattle.fmt_eval.specs.declared.read.Test.TheVariants as test

-- ---- what a read and a test mean

-- the number of so many bytes at a place in the payload
abbrev pub placed : RecData → ℕ → ℕ → Bool → Number
placed g at size signed = let kind = sized_kind signed size in number kind (reduced kind (sized signed size (unsigned_in g.order g.payload at size)))

abbrev pub number_by : Read → RecData → Tree → Number
number_by (Half at signed) g t = placed g at 4 signed
number_by (Whole at signed) g t = placed g at 8 signed
number_by Walk g t = number_of g t

-- over every record, what is read is the number of the tree
pub record ReadsAs (read : Read) (t : Tree) : Type 0 where
  pub each : (g : RecData) → number_by read g t ≡ number_of g t

abbrev pub tested : Test → RecData → Tree → Bool
tested (test.Half at signed mask) g t = is_true (applied BitAnd (placed g at 4 signed) (num_view mask))
tested (test.Whole at signed mask) g t = is_true (applied BitAnd (placed g at 8 signed) (num_view mask))
tested test.Walk g t = is_true (number_of g t)

-- over every record, what is tested is whether the number of the tree is not 0
pub record TestsAs (made : Test) (t : Tree) : Type 0 where
  pub each : (g : RecData) → tested made g t ≡ is_true (number_of g t)

-- ---- what is found of a tree

-- four or eight bytes are read at once
abbrev pub read_at : ℕ → ℕ → Bool → Read
read_at at size signed = if size == 4 then Half at signed else (if size == 8 then Whole at signed else Walk)

abbrev pub field_read_by : (has_number is_number : Bool) → Field → Read
field_read_by has_number is_number f = if has_number then read_at f.offset f.size (is_number && f.signed) else Walk

abbrev pub field_read : Field → Read
field_read f = field_read_by (has_number f.kind) (is_number f.kind) f

-- a cast to 64 bits without a sign changes no eight bytes without a sign
abbrev pub unsigned_read : Read → Read
unsigned_read (Whole at signed) = if signed then Walk else Whole at false
unsigned_read (Half at signed) = Walk
unsigned_read Walk = Walk

abbrev pub cast_read : CastTo → Read → Read
cast_read Same read = read
cast_read (Bits width signed) read = if width == 64 then (if signed then Walk else unsigned_read read) else Walk
cast_read Truth read = Walk

-- A number is read at once where it is that of a field of four or eight bytes, also under casts that change none.
abbrev pub read_of : Tree → Read
read_of (tree.field_number f) = field_read f
read_of (tree.cast to t) = cast_read to (read_of t)
read_of t = Walk

abbrev pub test_under : Read → Num → Test
test_under (Half at signed) mask = test.Half at signed mask
test_under (Whole at signed) mask = test.Whole at signed mask
test_under Walk mask = test.Walk

-- a mask is a number that is written out
abbrev pub mask_test : Read → Tree → Test
mask_test read (tree.number bits kind) = test_under read (record { bits = bits; kind = kind })
mask_test read t = test.Walk

abbrev pub operand_test : Read → BinaryOp → Tree → Test
operand_test read BitAnd t = mask_test read t
operand_test read op t = test.Walk

abbrev pub chain_test : Read → Operands → Test
chain_test read no_operands = test.Walk
chain_test read (operand op t no_operands) = operand_test read op t
chain_test read (operand op t (operand next u rest)) = test.Walk

-- A test is made at once where a number that is read at once stands under one mask.
abbrev pub test_of : Tree → Test
test_of (tree.chain first rest) = chain_test (read_of first) rest
test_of t = test.Walk
