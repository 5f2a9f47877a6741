-- The numbers of trees over a record, one equation a production.
use Rattle.std.specs.Prelude.{ℕ, ◌*◌, ◌/◌, ◌^◌, ℤ, pos, negsuc, Bool, false, ◌==◌, nat_lt, if◌then◌else◌, List}
use Rattle.trace_base.specs.declared.order.Order.{Order}
use Rattle.trace_base.specs.declared.field.Field.{Field}
use Rattle.trace_base.specs.declared.rec.Rec.{Rec}
use Rattle.trace_base.specs.Fields.{is_number, sized, unsigned_in, number_in, bytes_in}
use Rattle.fmt_literal.specs.declared.ckind.CKind.{CKind}
use Rattle.fmt_literal.specs.declared.ckind.CKind.TheVariants.{I32, U32, I64, U64}
use Rattle.fmt_expr.specs.Tree as tree
use Rattle.fmt_expr.specs.Tree.{Tree, Operands, no_operands, operand}
use Rattle.fmt_eval.specs.Numbers.{Number, number, reduced, is_true}
use Rattle.fmt_eval.specs.Operators.{common, applied, prefixed, cast}
use Rattle.fmt_eval.specs.NumView.{exact_bits}

-- what is known of a record: its payload, and the order of its numbers
pub record RecData : Type 0 where
  pub order : Order
  pub payload : List ℕ

abbrev pub given : Rec → RecData
given rec = record { order = rec.order; payload = rec.payload.now }

-- the kind of a number of so many bytes, after promotion (C11 6.3.1.1)
abbrev pub sized_kind : Bool → ℕ → CKind
sized_kind signed size = if nat_lt size 4 then I32 else (if size == 4 then (if signed then I32 else U32) else (if signed then I64 else U64))

abbrev pub nothing : Number
nothing = number I32 (pos 0)

abbrev pub field_number : RecData → Field → Number
field_number g f = let kind = sized_kind (if is_number f.kind then f.signed else false) f.size in number kind (reduced kind (number_in g.order g.payload f))

-- an element of a field's bytes; 0 where the index is not inside
abbrev pub element_at : RecData → Field → ℤ → ℤ
element_at g f (pos i) = sized f.signed f.element (unsigned_in g.order (bytes_in g.order g.payload f) (i * f.element) f.element)
element_at g f (negsuc i) = pos 0

abbrev pub element : RecData → Field → ℤ → Number
element g f i = let kind = sized_kind f.signed f.element in number kind (reduced kind (element_at g f i))

-- how many bytes a dynamic field has: the number in the high 16 bits of its word
abbrev pub length_of : RecData → Field → Number
length_of g f = number U32 (reduced U32 (pos (unsigned_in g.order g.payload f.offset 4 / 2 ^ 16)))

-- both arms of `?:` are converted to a common kind (C11 6.5.15)
abbrev pub chosen : Bool → Number → Number → Number
chosen holds a b = let kind = common a.kind b.kind in number kind (reduced kind (if holds then a.exact else b.exact))

abbrev mutual
  -- the number that a tree is; a text or bytes count as the number 0
  pub number_of : RecData → Tree → Number
  number_of g (tree.number bits kind) = number kind (exact_bits kind bits)
  number_of g (tree.literal text) = nothing
  number_of g (tree.field_number f) = field_number g f
  number_of g (tree.field_text f) = nothing
  number_of g (tree.field_bytes f) = nothing
  number_of g (tree.element f index) = element g f (number_of g index).exact
  number_of g (tree.len_of f) = length_of g f
  number_of g (tree.prefix op e) = prefixed op (number_of g e)
  number_of g (tree.cast to e) = cast to (number_of g e)
  number_of g (tree.chain first rest) = folded g (number_of g first) rest
  number_of g (tree.choice test a b) = chosen (is_true (number_of g test)) (number_of g a) (number_of g b)
  number_of g (tree.flags value between rows) = nothing
  number_of g (tree.symbolic value rows) = nothing
  number_of g (tree.hex bytes count) = nothing
  number_of g (tree.array bytes count size) = nothing

  -- the operators of one level, from the left
  pub folded : RecData → Number → Operands → Number
  folded g n no_operands = n
  folded g n (operand op e rest) = folded g (applied op n (number_of g e)) rest
