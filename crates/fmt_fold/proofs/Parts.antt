-- Trees of parts that are the same are the same.
use Rattle.std.proofs.Common.{◌≡◌, ◌∙◌, ℕ, List, [], ◌∷◌, map, refl, ap, sym, if◌then◌else◌}
use Rattle.trace_base.specs.declared.field.Field.{Field}
use Rattle.trace_base.specs.Fields.{number_in, bytes_in, place_in}
use Rattle.fmt_expr.specs.Tree as tree
use Rattle.fmt_expr.specs.Tree.{Tree}
use Rattle.fmt_expr.specs.TreeView.{tree_of, operands_of, entries_of}
use Rattle.c_operators.specs.declared.binary.BinaryOp.{BinaryOp}
use Rattle.fmt_expr.specs.declared.expr.PrefixOp.{PrefixOp}
use Rattle.fmt_expr.specs.declared.expr.Operand.{Operand}
use Rattle.fmt_expr.specs.declared.expr.Entry.{Entry}
use Rattle.fmt_expr.specs.declared.kinds.Kind.TheVariants as kinds
use Rattle.fmt_literal.specs.declared.cast_to.CastTo.{CastTo}
use Rattle.fmt_eval.specs.Numbers.{Number, pattern, is_true}
use Rattle.fmt_eval.specs.Operators.{applied, prefixed, cast}
use Rattle.fmt_eval.specs.Values.{RecData, nothing, number_of, folded, chosen, element}
use Rattle.fmt_eval.specs.Flags.{Row, flags_text, symbol_text}
use Rattle.fmt_eval.specs.Arrays.{hex_text, array_text}
use Rattle.fmt_eval.specs.Entered.{rows_in, row_of}
use Rattle.fmt_eval.specs.Texts.{rows_of}
use Rattle.fmt_fold.specs.Same.{Meaning, meaning_of, IsSame, nameless, step_of, SameOperands, SameEntries}

pub same_trans : (t u v : Tree) → IsSame t u → IsSame u v → IsSame t v
same_trans t u v h i = record { each = λ g. h.each g ∙ i.each g }

pub same_refl : (t : Tree) → IsSame t t
same_refl t = record { each = λ g. refl }

pub same_number : (f r : Field) → r ≡ nameless f → IsSame (tree.field_number r) (tree.field_number f)
unfolding number_in
same_number f r e = record { each = λ g. ap (λ (x : Field). meaning_of g (tree.field_number x)) e }

pub same_text : (f r : Field) → r ≡ nameless f → IsSame (tree.field_text r) (tree.field_text f)
unfolding bytes_in place_in
same_text f r e = record { each = λ g. ap (λ (x : Field). meaning_of g (tree.field_text x)) e }

pub same_bytes : (f r : Field) → r ≡ nameless f → IsSame (tree.field_bytes r) (tree.field_bytes f)
unfolding bytes_in place_in
same_bytes f r e = record { each = λ g. ap (λ (x : Field). meaning_of g (tree.field_bytes x)) e }

pub same_len : (f r : Field) → r ≡ nameless f → IsSame (tree.len_of r) (tree.len_of f)
same_len f r e = record { each = λ g. ap (λ (x : Field). meaning_of g (tree.len_of x)) e }

-- what is a number, and what is a text
abbrev pub numeric : Number → Meaning
numeric n = record { kind = kinds.Number; number = n; text = []; bytes = [] }

abbrev pub textual : List ℕ → Meaning
textual text = record { kind = kinds.Text; number = nothing; text = text; bytes = [] }

pub same_element : (f r : Field) (t u : Tree) → r ≡ nameless f → IsSame t u → IsSame (tree.element r t) (tree.element f u)
unfolding bytes_in place_in
same_element f r t u e h = record { each = λ g. ap (λ (x : Field). meaning_of g (tree.element x t)) e ∙ ap (λ (m : Meaning). numeric (element g f m.number.exact)) (h.each g) }

pub same_prefix : (op : PrefixOp) (t u : Tree) → IsSame t u → IsSame (tree.prefix op t) (tree.prefix op u)
same_prefix op t u h = record { each = λ g. ap (λ (m : Meaning). numeric (prefixed op m.number)) (h.each g) }

abbrev pub cast_of : CastTo → Meaning → Meaning
cast_of to m = record { kind = m.kind; number = cast to m.number; text = m.text; bytes = m.bytes }

pub same_cast : (to : CastTo) (t u : Tree) → IsSame t u → IsSame (tree.cast to t) (tree.cast to u)
same_cast to t u h = record { each = λ g. ap (cast_of to) (h.each g) }

abbrev steps : Number → List (BinaryOp × Number) → Number
steps n [] = n
steps n (s ∷ ss) = steps (applied s.0 n s.1) ss

folded_steps : (g : RecData) (n : Number) (os : List Operand) → folded g n (operands_of os) ≡ steps n (map (step_of g) os)
folded_steps g n [] = refl
folded_steps g n (o ∷ os) = folded_steps g (applied o.op n (number_of g (tree_of o.value))) os

pub same_chain : (t u : Tree) (os ps : List Operand) → IsSame t u → SameOperands os ps → IsSame (tree.chain t (operands_of os)) (tree.chain u (operands_of ps))
same_chain t u os ps h k = record {
  each = λ g.
      ap (λ (m : Meaning). numeric (folded g m.number (operands_of os))) (h.each g)
      ∙ ap numeric (folded_steps g (number_of g u) os ∙ ap (steps (number_of g u)) (k.each g) ∙ sym (folded_steps g (number_of g u) ps));
}

abbrev pub choice_of : Meaning → Meaning → Meaning → Meaning
choice_of test one other = record {
  kind = one.kind;
  number = chosen (is_true test.number) one.number other.number;
  text = if is_true test.number then one.text else other.text;
  bytes = if is_true test.number then one.bytes else other.bytes;
}

pub same_choice : (t u a b c d : Tree) → IsSame t u → IsSame a b → IsSame c d → IsSame (tree.choice t a c) (tree.choice u b d)
same_choice t u a b c d h i j = record {
  each = λ g.
      ap (λ (m : Meaning). choice_of m (meaning_of g a) (meaning_of g c)) (h.each g)
      ∙ ap (λ (m : Meaning). choice_of (meaning_of g u) m (meaning_of g c)) (i.each g)
      ∙ ap (choice_of (meaning_of g u) (meaning_of g b)) (j.each g);
}

rows_are : (g : RecData) (es : List Entry) → rows_of g (entries_of es) ≡ rows_in g es
rows_are g [] = refl
rows_are g (e ∷ es) = ap (λ (rows : List Row). row_of g e ∷ rows) (rows_are g es)

same_rows : (g : RecData) (es fs : List Entry) → rows_in g es ≡ rows_in g fs → rows_of g (entries_of es) ≡ rows_of g (entries_of fs)
same_rows g es fs k = rows_are g es ∙ k ∙ sym (rows_are g fs)

pub same_flags : (t u : Tree) (between : List ℕ) (es fs : List Entry) → IsSame t u → SameEntries es fs → IsSame (tree.flags t between (entries_of es)) (tree.flags u between (entries_of fs))
same_flags t u between es fs h k = record {
  each = λ g.
      ap (λ (m : Meaning). textual (flags_text between (pattern m.number.exact) (rows_of g (entries_of es)))) (h.each g)
      ∙ ap (λ (rows : List Row). textual (flags_text between (pattern (number_of g u).exact) rows)) (same_rows g es fs (k.each g));
}

pub same_symbolic : (t u : Tree) (es fs : List Entry) → IsSame t u → SameEntries es fs → IsSame (tree.symbolic t (entries_of es)) (tree.symbolic u (entries_of fs))
same_symbolic t u es fs h k = record {
  each = λ g.
      ap (λ (m : Meaning). textual (symbol_text (pattern m.number.exact) (rows_of g (entries_of es)))) (h.each g)
      ∙ ap (λ (rows : List Row). textual (symbol_text (pattern (number_of g u).exact) rows)) (same_rows g es fs (k.each g));
}

pub same_hex : (t u c d : Tree) → IsSame t u → IsSame c d → IsSame (tree.hex t c) (tree.hex u d)
same_hex t u c d h i = record {
  each = λ g.
      ap (λ (m : Meaning). textual (hex_text (number_of g c).exact m.bytes)) (h.each g)
      ∙ ap (λ (m : Meaning). textual (hex_text m.number.exact (meaning_of g u).bytes)) (i.each g);
}

pub same_array : (t u c d s z : Tree) → IsSame t u → IsSame c d → IsSame s z → IsSame (tree.array t c s) (tree.array u d z)
same_array t u c d s z h i j = record {
  each = λ g.
      ap (λ (m : Meaning). textual (array_text g.order (number_of g c).exact (number_of g s).exact m.bytes)) (h.each g)
      ∙ ap (λ (m : Meaning). textual (array_text g.order m.number.exact (number_of g s).exact (meaning_of g u).bytes)) (i.each g)
      ∙ ap (λ (m : Meaning). textual (array_text g.order (number_of g d).exact m.number.exact (meaning_of g u).bytes)) (j.each g);
}
