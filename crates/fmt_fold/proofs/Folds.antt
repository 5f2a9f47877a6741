-- Trees of folded parts are folded, one lemma a production.
use Rattle.std.proofs.Common.{◌≡◌, ◌∙◌, ℕ, Bool, true, ◌&&◌, List, refl, sym, subst, inl, inr}
use Rattle.std.proofs.lemmas.Bool.{cases_Bool, false≢true}
use Rattle.trace_base.specs.declared.field.Field.{Field}
use Rattle.fmt_literal.specs.declared.ckind.CKind.{CKind}
use Rattle.fmt_literal.specs.declared.cast_to.CastTo.{CastTo}
use Rattle.fmt_expr.specs.Tree as tree
use Rattle.fmt_expr.specs.Tree.{Tree, Operands, no_operands, operand}
use Rattle.fmt_expr.specs.TreeView.{operands_of, entries_of}
use Rattle.fmt_expr.specs.declared.expr.PrefixOp.{PrefixOp}
use Rattle.fmt_expr.specs.declared.expr.Operand.{Operand}
use Rattle.fmt_expr.specs.declared.expr.Entry.{Entry}
use Rattle.fmt_fold.specs.Constants.{is_written, all_written, is_fixed, is_constant, all_constant}
use Rattle.fmt_fold.specs.Same.{IsSame, nameless}
use Rattle.fmt_fold.specs.Folded.{EachPart, EachOperand, IsNoneLeft, IsSettled, IsFolded, FoldedOperands, FoldedEntries}
use Rattle.fmt_fold.proofs.Written.{first, second, both}
use Rattle.fmt_fold.proofs.Parts.{same_refl, same_trans, same_number, same_text, same_bytes, same_len, same_element, same_prefix, same_cast, same_chain, same_choice, same_flags, same_symbolic, same_hex, same_array}

-- ---- what is said of each part is said of the tree

none_left : (t : Tree) → EachPart IsNoneLeft t → IsNoneLeft t
none_left (tree.number bits kind) h = h
none_left (tree.literal text) h = h
none_left (tree.field_number f) h = h
none_left (tree.field_text f) h = h
none_left (tree.field_bytes f) h = h
none_left (tree.element f t) h = h.0
none_left (tree.len_of f) h = h
none_left (tree.prefix op t) h = h.0
none_left (tree.cast to t) h = h.0
none_left (tree.chain t rest) h = h.0
none_left (tree.choice test one other) h = h.0
none_left (tree.flags t between es) h = h.0
none_left (tree.symbolic t es) h = h.0
none_left (tree.hex bytes count) h = h.0
none_left (tree.array bytes count size) h = h.0

two : (p q x y : Bool) → (p ≡ true → x ≡ true) → (q ≡ true → y ≡ true) → p && q ≡ true → x && y ≡ true
two p q x y f g e = both x y (f (first p q e)) (g (second p q e))

three : (p q r x y z : Bool) → (p ≡ true → x ≡ true) → (q ≡ true → y ≡ true) → (r ≡ true → z ≡ true) → (p && q) && r ≡ true → (x && y) && z ≡ true
three p q r x y z f g h e = two (p && q) r (x && y) z (two p q x y f g) h e

none_left_of : (rest : Operands) → EachOperand IsNoneLeft rest → all_constant rest ≡ true → all_written rest ≡ true
none_left_of no_operands h e = refl
none_left_of (operand op t rest) h e = two (is_constant t) (all_constant rest) (is_written t) (all_written rest) (none_left t h.0) (none_left_of rest h.1) e

written_parts : (t : Tree) → is_written t ≡ true → EachPart IsNoneLeft t
written_parts (tree.number bits kind) e = λ _. refl
written_parts t e = absurd (false≢true e)

-- ---- a tree of folded parts, written out where they all are

settle : (made x t : Tree) → IsSettled made x → IsSame x t → (is_constant t ≡ true → is_fixed x ≡ true) → (is_constant x ≡ true → is_fixed x ≡ true) → (IsNoneLeft x → EachPart IsNoneLeft x)
    → IsFolded made t
settle made x t s h constant fixed parts = record {
  same = same_trans made x t s.same h;
  written = λ e. s.written (constant e);
  parts = elim (cases_Bool (is_fixed x)) as (λ _. EachPart IsNoneLeft made) [
    | inl is ↦ written_parts made (s.written is)
    | inr not ↦ subst (EachPart IsNoneLeft) (sym (s.kept not)) (parts (λ e. absurd (false≢true (sym not ∙ fixed e))))
  ];
}

pub folded_prefix : (op : PrefixOp) (made t u : Tree) → IsSettled made (tree.prefix op t) → IsFolded t u → IsFolded made (tree.prefix op u)
folded_prefix op made t u s h =
    settle made (tree.prefix op t) (tree.prefix op u) s (same_prefix op t u h.same) h.written (none_left t h.parts) (λ left. (left, h.parts))

pub folded_cast : (to : CastTo) (made t u : Tree) → IsSettled made (tree.cast to t) → IsFolded t u → IsFolded made (tree.cast to u)
folded_cast to made t u s h =
    settle made (tree.cast to t) (tree.cast to u) s (same_cast to t u h.same) h.written (none_left t h.parts) (λ left. (left, h.parts))

pub folded_chain : (made x t u : Tree) (os ps : List Operand) → IsSettled made x → x ≡ tree.chain t (operands_of os) → IsFolded t u → FoldedOperands os ps → IsFolded made (tree.chain u (operands_of ps))
folded_chain made x t u os ps s e h k =
    settle made (tree.chain t (operands_of os)) (tree.chain u (operands_of ps)) (subst (IsSettled made) e s) (same_chain t u os ps h.same k.same)
    (two (is_constant u) (all_constant (operands_of ps)) (is_written t) (all_written (operands_of os)) h.written k.written)
    (two (is_constant t) (all_constant (operands_of os)) (is_written t) (all_written (operands_of os)) (none_left t h.parts) (none_left_of (operands_of os) k.parts))
    (λ left. (left, h.parts, k.parts))

pub folded_choice : (made t u a b c d : Tree) → IsSettled made (tree.choice t a c) → IsFolded t u → IsFolded a b → IsFolded c d → IsFolded made (tree.choice u b d)
folded_choice made t u a b c d s h i j =
    settle made (tree.choice t a c) (tree.choice u b d) s (same_choice t u a b c d h.same i.same j.same)
    (three (is_constant u) (is_constant b) (is_constant d) (is_written t) (is_written a) (is_written c) h.written i.written j.written)
    (three (is_constant t) (is_constant a) (is_constant c) (is_written t) (is_written a) (is_written c) (none_left t h.parts) (none_left a i.parts) (none_left c j.parts))
    (λ left. (left, h.parts, i.parts, j.parts))

-- ---- trees that are no constant, whatever their parts are

pub folded_number : (bits : ℕ) (kind : CKind) → IsFolded (tree.number bits kind) (tree.number bits kind)
folded_number bits kind = record { same = same_refl (tree.number bits kind); written = λ _. refl; parts = λ _. refl }

pub folded_literal : (text : List ℕ) → IsFolded (tree.literal text) (tree.literal text)
folded_literal text = record { same = same_refl (tree.literal text); written = λ e. e; parts = λ e. e }

pub folded_field : (f r : Field) → r ≡ nameless f → IsFolded (tree.field_number r) (tree.field_number f)
folded_field f r is = record { same = same_number f r is; written = λ e. e; parts = λ e. e }

pub folded_text : (f r : Field) → r ≡ nameless f → IsFolded (tree.field_text r) (tree.field_text f)
folded_text f r is = record { same = same_text f r is; written = λ e. e; parts = λ e. e }

pub folded_bytes : (f r : Field) → r ≡ nameless f → IsFolded (tree.field_bytes r) (tree.field_bytes f)
folded_bytes f r is = record { same = same_bytes f r is; written = λ e. e; parts = λ e. e }

pub folded_len : (f r : Field) → r ≡ nameless f → IsFolded (tree.len_of r) (tree.len_of f)
folded_len f r is = record { same = same_len f r is; written = λ e. e; parts = λ e. e }

pub folded_element : (f r : Field) (t u : Tree) → r ≡ nameless f → IsFolded t u → IsFolded (tree.element r t) (tree.element f u)
folded_element f r t u is h = record { same = same_element f r t u is h.same; written = λ e. e; parts = (λ e. e, h.parts) }

pub folded_flags : (x t u : Tree) (between : List ℕ) (es fs : List Entry) → x ≡ tree.flags t between (entries_of es) → IsFolded t u → FoldedEntries es fs → IsFolded x (tree.flags u between (entries_of fs))
folded_flags x t u between es fs is h k =
    let made : IsFolded (tree.flags t between (entries_of es)) (tree.flags u between (entries_of fs)) =
    record { same = same_flags t u between es fs h.same k.same; written = λ e. e; parts = (λ e. e, h.parts, k.parts) } in
    subst (λ (v : Tree). IsFolded v (tree.flags u between (entries_of fs))) (sym is) made

pub folded_symbolic : (x t u : Tree) (es fs : List Entry) → x ≡ tree.symbolic t (entries_of es) → IsFolded t u → FoldedEntries es fs → IsFolded x (tree.symbolic u (entries_of fs))
folded_symbolic x t u es fs is h k =
    let made : IsFolded (tree.symbolic t (entries_of es)) (tree.symbolic u (entries_of fs)) =
    record { same = same_symbolic t u es fs h.same k.same; written = λ e. e; parts = (λ e. e, h.parts, k.parts) } in
    subst (λ (v : Tree). IsFolded v (tree.symbolic u (entries_of fs))) (sym is) made

pub folded_hex : (t u c d : Tree) → IsFolded t u → IsFolded c d → IsFolded (tree.hex t c) (tree.hex u d)
folded_hex t u c d h i = record { same = same_hex t u c d h.same i.same; written = λ e. e; parts = (λ e. e, h.parts, i.parts) }

pub folded_array : (t u c d s z : Tree) → IsFolded t u → IsFolded c d → IsFolded s z → IsFolded (tree.array t c s) (tree.array u d z)
folded_array t u c d s z h i j = record { same = same_array t u c d s z h.same i.same j.same; written = λ e. e; parts = (λ e. e, h.parts, i.parts, j.parts) }

-- ---- the record's fields, each by itself

pub folded_same : (made t : Tree) → IsFolded made t → IsSame made t
folded_same made t h = h.same

pub folded_written : (made t : Tree) → IsFolded made t → is_constant t ≡ true → is_written made ≡ true
folded_written made t h = h.written

pub folded_parts : (made t : Tree) → IsFolded made t → EachPart IsNoneLeft made
folded_parts made t h = h.parts
