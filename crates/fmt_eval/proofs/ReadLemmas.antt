-- What is found of trees is what they are over every record.
use Rattle.std.proofs.Common.{◌≡◌, ℕ, Bool, true, false, ◌&&◌, List, [], ◌∷◌, length, get_or, sym, ap, ◌∙◌, refl, subst, inl, inr, if◌then◌else◌, arith}
use Rattle.std.specs.Prelude.{pos}
use Rattle.std.proofs.lemmas.Bool.Decides.{eqb_tells}
use Rattle.trace_base.specs.declared.field.Field.{Field}
use Rattle.trace_base.specs.declared.field.FieldKind.{FieldKind}
use Rattle.trace_base.specs.declared.field.FieldKind.TheVariants as fields
use Rattle.trace_base.specs.Fields.{is_number, has_number, sized, unsigned_in, number_in}
use Rattle.c_operators.specs.declared.binary.BinaryOp.{BinaryOp}
use Rattle.c_operators.specs.declared.binary.BinaryOp.TheVariants.{BitAnd}
use Rattle.fmt_literal.specs.declared.ckind.CKind.{CKind}
use Rattle.fmt_literal.specs.declared.ckind.CKind.TheVariants.{U64}
use Rattle.fmt_literal.specs.declared.cast_to.CastTo.{CastTo}
use Rattle.fmt_literal.specs.declared.cast_to.CastTo.TheVariants.{Bits, Truth, Same}
use Rattle.fmt_expr.specs.Tree as tree
use Rattle.fmt_expr.specs.Tree.{Tree, Operands, no_operands, operand}
use Rattle.fmt_expr.specs.TreeView.{tree_of, operands_of}
use Rattle.fmt_expr.specs.declared.expr.Operand.{Operand}
use Rattle.fmt_eval.specs.Numbers as numbers
use Rattle.fmt_eval.specs.Numbers.{number, reduced, is_true}
use Rattle.fmt_eval.specs.Values.{RecData, sized_kind, number_of}
use Rattle.fmt_eval.specs.NumView.{num_view}
use Rattle.fmt_eval.specs.Operators.{applied}
use Rattle.fmt_eval.specs.Reads.{placed, number_by, ReadsAs, tested, TestsAs, read_at, field_read_by, field_read, unsigned_read, cast_read, read_of, test_under, mask_test, operand_test, chain_test, test_of}
use Rattle.fmt_eval.specs.declared.num.Num.{Num}
use Rattle.fmt_eval.specs.declared.read.Read.{Read}
use Rattle.fmt_eval.specs.declared.read.Read.TheVariants.{Half, Whole, Walk}
use Rattle.fmt_eval.specs.declared.read.Test.{Test}
use Rattle.fmt_eval.specs.declared.read.Test.TheVariants as test

-- ---- reads

reads_at : (at size : ℕ) (signed : Bool) (t : Tree) (g : RecData) → number_of g t ≡ placed g at size signed → number_by (read_at at size signed) g t ≡ number_of g t
reads_at at size signed t g h = elim (eqb_tells size 4) as (λ _. number_by (read_at at size signed) g t ≡ number_of g t) [
  | inl four ↦ rw four.0 (ap (λ (n : ℕ). placed g at n signed) (sym four.1) ∙ sym h)
  | inr other ↦ elim (eqb_tells size 8) as (λ _. number_by (read_at at size signed) g t ≡ number_of g t) [
    | inl eight ↦ rw other.0 (rw eight.0 (ap (λ (n : ℕ). placed g at n signed) (sym eight.1) ∙ sym h))
    | inr none ↦ rw other.0 (rw none.0 refl)
  ]
]

-- the number of a field by its kind
abbrev by_kind : RecData → Field → FieldKind → numbers.Number
by_kind g f k =
    let kind = sized_kind (if is_number k then f.signed else false) f.size in
    number kind (reduced kind (if has_number k then sized (is_number k && f.signed) f.size (unsigned_in g.order g.payload f.offset f.size) else pos 0))

field_by_kind : (g : RecData) (f : Field) → number_of g (tree.field_number f) ≡ by_kind g f f.kind
unfolding number_in
field_by_kind g f = refl

reads_field : (f : Field) (g : RecData) (k : FieldKind) → f.kind ≡ k → number_by (field_read_by (has_number k) (is_number k) f) g (tree.field_number f) ≡ number_of g (tree.field_number f)
reads_field f g fields.Number is = reads_at f.offset f.size f.signed (tree.field_number f) g (field_by_kind g f ∙ ap (by_kind g f) is)
reads_field f g fields.Pointer is = reads_at f.offset f.size false (tree.field_number f) g (field_by_kind g f ∙ ap (by_kind g f) is)
reads_field f g fields.Text is = refl
reads_field f g fields.Bytes is = refl

twice_reduced : (n : ℕ) → reduced U64 (pos n) ≡ reduced U64 (reduced U64 (pos n))
unfolding reduced
twice_reduced n = ap pos (omega arith)

reads_unsigned : (read : Read) (t : Tree) (g : RecData) → number_by read g t ≡ number_of g t → number_by (unsigned_read read) g (tree.cast (Bits 64 false) t) ≡ number_of g (tree.cast (Bits 64 false) t)
reads_unsigned (Whole at true) t g h = refl
reads_unsigned (Whole at false) t g h = ap (number U64) (twice_reduced (unsigned_in g.order g.payload at 8)) ∙ ap (λ (n : numbers.Number). number U64 (reduced U64 n.exact)) h
reads_unsigned (Half at signed) t g h = refl
reads_unsigned Walk t g h = refl

abbrev wide_read : Bool → Read → Read
wide_read signed read = if signed then Walk else unsigned_read read

reads_wide : (signed : Bool) (read : Read) (t : Tree) (g : RecData) → number_by read g t ≡ number_of g t → number_by (wide_read signed read) g (tree.cast (Bits 64 signed) t) ≡ number_of g (tree.cast (Bits 64 signed) t)
reads_wide true read t g h = refl
reads_wide false read t g h = reads_unsigned read t g h

reads_same : (read : Read) (t : Tree) (g : RecData) → number_by read g t ≡ number_of g t → number_by read g (tree.cast Same t) ≡ number_of g t
reads_same (Half at signed) t g h = h
reads_same (Whole at signed) t g h = h
reads_same Walk t g h = h

reads_cast : (to : CastTo) (read : Read) (t : Tree) (g : RecData) → number_by read g t ≡ number_of g t → number_by (cast_read to read) g (tree.cast to t) ≡ number_of g (tree.cast to t)
reads_cast Same read t g h = reads_same read t g h
reads_cast (Bits width signed) read t g h = elim (eqb_tells width 64) as (λ _. number_by (cast_read (Bits width signed) read) g (tree.cast (Bits width signed) t) ≡ number_of g (tree.cast (Bits width signed) t)) [
  | inl is ↦ rw is.0 (
      let P : ℕ → Type 0 = λ n. number_by (wide_read signed read) g (tree.cast (Bits n signed) t) ≡ number_of g (tree.cast (Bits n signed) t) in
      subst P (sym is.1) (reads_wide signed read t g h)
      )
  | inr other ↦ rw other.0 refl
]
reads_cast Truth read t g h = refl

reads_tree : (t : Tree) (g : RecData) → number_by (read_of t) g t ≡ number_of g t
reads_tree (tree.field_number f) g = reads_field f g f.kind refl
reads_tree (tree.cast to t) g = reads_cast to (read_of t) t g (reads_tree t g)
reads_tree t g = refl

pub reads_as : (read : Read) (t : Tree) → read ≡ read_of t → ReadsAs read t
reads_as read t is = record { each = λ g. ap (λ (r : Read). number_by r g t) is ∙ reads_tree t g }

-- ---- tests

abbrev under : Tree → ℕ → CKind → Tree
under t bits kind = tree.chain t (operand BitAnd (tree.number bits kind) no_operands)

abbrev num : ℕ → CKind → Num
num bits kind = record { bits = bits; kind = kind }

tests_under : (read : Read) (t : Tree) (bits : ℕ) (kind : CKind) (g : RecData) → number_by read g t ≡ number_of g t → tested (test_under read (num bits kind)) g (under t bits kind) ≡ is_true (number_of g (under t bits kind))
tests_under (Half at signed) t bits kind g h = ap (λ (n : numbers.Number). is_true (applied BitAnd n (num_view (num bits kind)))) h
tests_under (Whole at signed) t bits kind g h = ap (λ (n : numbers.Number). is_true (applied BitAnd n (num_view (num bits kind)))) h
tests_under Walk t bits kind g h = refl

tests_mask : (read : Read) (t mask : Tree) (g : RecData) → number_by read g t ≡ number_of g t
    → tested (mask_test read mask) g (tree.chain t (operand BitAnd mask no_operands)) ≡ is_true (number_of g (tree.chain t (operand BitAnd mask no_operands)))
tests_mask read t (tree.number bits kind) g h = tests_under read t bits kind g h
tests_mask read t mask g h = refl

tests_operand : (read : Read) (t mask : Tree) (op : BinaryOp) (g : RecData) → number_by read g t ≡ number_of g t
    → tested (operand_test read op mask) g (tree.chain t (operand op mask no_operands)) ≡ is_true (number_of g (tree.chain t (operand op mask no_operands)))
tests_operand read t mask BitAnd g h = tests_mask read t mask g h
tests_operand read t mask op g h = refl

tests_chain : (read : Read) (t : Tree) (rest : Operands) (g : RecData) → number_by read g t ≡ number_of g t → tested (chain_test read rest) g (tree.chain t rest) ≡ is_true (number_of g (tree.chain t rest))
tests_chain read t no_operands g h = refl
tests_chain read t (operand op mask no_operands) g h = tests_operand read t mask op g h
tests_chain read t (operand op mask (operand next u rest)) g h = refl

tests_tree : (t : Tree) (g : RecData) → tested (test_of t) g t ≡ is_true (number_of g t)
tests_tree (tree.chain first rest) g = tests_chain (read_of first) first rest g (reads_tree first g)
tests_tree t g = refl

pub tests_as : (made : Test) (t : Tree) → made ≡ test_of t → TestsAs made t
tests_as made t is = record { each = λ g. ap (λ (m : Test). tested m g t) is ∙ tests_tree t g }

-- other than one operator is no mask
pub no_mask : (read : Read) (rest : List Operand) → ((length rest ≡ 1) → ⊥) → test.Walk ≡ chain_test read (operands_of rest)
no_mask read [] other = refl
no_mask read (o ∷ []) other = absurd (other refl)
no_mask read (o ∷ (next ∷ rest)) other = refl

pub one_mask : (read : Read) (rest : List Operand) (o : Operand) → length rest ≡ 1 → o ≡ get_or rest 0 o → operand_test read o.op (tree_of o.value) ≡ chain_test read (operands_of rest)
one_mask read [] o one is = absurd (omega (arith, one))
one_mask read (x ∷ []) o one is = ap (λ (p : Operand). operand_test read p.op (tree_of p.value)) is
one_mask read (x ∷ (next ∷ rest)) o one is = absurd (omega (arith, one))

pub field_is : (read : Read) (f : Field) (k : FieldKind) → f.kind ≡ k → read ≡ field_read_by (has_number k) (is_number k) f → read ≡ field_read f
field_is read f k is made = made ∙ ap (λ (kind : FieldKind). field_read_by (has_number kind) (is_number kind) f) (sym is)
