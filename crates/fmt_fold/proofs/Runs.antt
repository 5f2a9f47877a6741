-- Rows that were made from the first of others.
use Rattle.std.proofs.Common.{◌≡◌, ℕ, ◌+◌, ◌<◌, ◌≤◌, true, List, [], ◌∷◌, ◌++◌, length, map, drop, get_or, ap, sym, subst, ◌∙◌, append_assoc}
use Rattle.std.proofs.lemmas.List.{append-nil, map-append, drop_more, drop_all}
use Rattle.fmt_expr.specs.TreeView.{tree_of, operands_of, entries_of}
use Rattle.c_operators.specs.declared.binary.BinaryOp.{BinaryOp}
use Rattle.fmt_expr.specs.declared.expr.Operand.{Operand}
use Rattle.fmt_expr.specs.declared.expr.Entry.{Entry}
use Rattle.fmt_eval.specs.Numbers.{Number, pattern}
use Rattle.fmt_eval.specs.Values.{RecData, number_of}
use Rattle.fmt_eval.specs.Flags.{Row}
use Rattle.fmt_eval.specs.Entered.{row_of}
use Rattle.fmt_fold.specs.Same.{Meaning, IsSame, step_of}
use Rattle.fmt_fold.specs.Constants.{all_written, is_constant, all_constant}
use Rattle.fmt_fold.specs.Folded.{EachPart, EachOperand, EachEntry, IsNoneLeft, IsFolded, FoldedOperands, FoldedEntries}
use Rattle.fmt_fold.proofs.Written.{constant_row, written_more}

pub more : {A B : Type 0} (f : A → B) (xs ys : List A) (i : ℕ) (d o : A) → i < length ys → f o ≡ f (get_or ys i d) → map f xs ++ map f (drop i ys) ≡ map f ys
    → map f (xs ++ o ∷ []) ++ map f (drop (i + 1) ys) ≡ map f ys
more {A} {B} f xs ys i d o lt s e =
    let rest = map f (drop (i + 1) ys) in
    ap (λ (l : List B). l ++ rest) (map-append f xs (o ∷ []))
    ∙ append_assoc (map f xs) (f o ∷ []) rest
    ∙ ap (λ (b : B). map f xs ++ (b ∷ rest)) s
    ∙ ap (λ (l : List A). map f xs ++ map f l) (sym (drop_more ys i d lt))
    ∙ e

pub all : {A B : Type 0} (f : A → B) (xs ys : List A) (i : ℕ) → length ys ≤ i → map f xs ++ map f (drop i ys) ≡ map f ys → map f xs ≡ map f ys
all {A} {B} f xs ys i le e = sym (append-nil (map f xs)) ∙ ap (λ (l : List A). map f xs ++ map f l) (sym (drop_all i ys le)) ∙ e

pub none : {A B : Type 0} (f : A → B) (xs ys : List A) → xs ≡ [] → map f xs ++ map f (drop 0 ys) ≡ map f ys
none {A} f xs ys e = ap (λ (l : List A). map f l ++ map f ys) e

abbrev pair : BinaryOp → Number → BinaryOp × Number
pair op n = (op, n)

abbrev row : ℕ → List ℕ → Row
row mask text = (mask, text)

-- operands
pub record OperandsTo (os ps : List Operand) (i : ℕ) : Type 0 where
  pub each : (g : RecData) → map (step_of g) os ++ map (step_of g) (drop i ps) ≡ map (step_of g) ps
  pub constant : all_constant (operands_of ps) ≡ true → all_constant (operands_of (drop i ps)) ≡ true
  pub written : all_constant (operands_of ps) ≡ true → all_written (operands_of os) ≡ true
  pub parts : EachOperand IsNoneLeft (operands_of os)

pub operands_none : (os ps : List Operand) → os ≡ [] → OperandsTo os ps 0
operands_none os ps e = record {
  each = λ g. none (step_of g) os ps e;
  constant = λ c. c;
  written = λ _. ap (λ (l : List Operand). all_written (operands_of l)) e;
  parts = subst (λ (l : List Operand). EachOperand IsNoneLeft (operands_of l)) (sym e) tt;
}

same_step : (g : RecData) (o p : Operand) → o.op ≡ p.op → IsSame (tree_of o.value) (tree_of p.value) → step_of g o ≡ step_of g p
same_step g o p e h =
    ap (λ (op : BinaryOp). pair op (number_of g (tree_of o.value))) e ∙ ap (λ (m : Meaning). pair p.op m.number) (h.each g)

operand_parts : (os : List Operand) (o : Operand) → EachOperand IsNoneLeft (operands_of os) → EachPart IsNoneLeft (tree_of o.value) → EachOperand IsNoneLeft (operands_of (os ++ o ∷ []))
operand_parts [] o h w = (w, tt)
operand_parts (x ∷ xs) o h w = (h.0, operand_parts xs o h.1 w)

pub operands_more : (os ps : List Operand) (i : ℕ) (o p : Operand) → i < length ps → p ≡ get_or ps i p → o.op ≡ p.op → IsFolded (tree_of o.value) (tree_of p.value)
    → OperandsTo os ps i → OperandsTo (os ++ o ∷ []) ps (i + 1)
operands_more os ps i o p lt is e h k = record {
  each = λ g. more (step_of g) os ps i p o lt (same_step g o p e h.same ∙ ap (step_of g) is) (k.each g);
  constant = λ c. (constant_row ps i p lt (k.constant c)).1;
  written = λ c. written_more os o (k.written c) (h.written (subst (λ (x : Operand). is_constant (tree_of x.value) ≡ true) (sym is) (constant_row ps i p lt (k.constant c)).0));
  parts = operand_parts os o k.parts h.parts;
}

pub operands_all : (os ps : List Operand) (i : ℕ) → length ps ≤ i → OperandsTo os ps i → FoldedOperands os ps
operands_all os ps i le k = record { same = record { each = λ g. all (step_of g) os ps i le (k.each g) }; written = k.written; parts = k.parts }

-- entries
pub record EntriesTo (es fs : List Entry) (i : ℕ) : Type 0 where
  pub each : (g : RecData) → map (row_of g) es ++ map (row_of g) (drop i fs) ≡ map (row_of g) fs
  pub parts : EachEntry IsNoneLeft (entries_of es)

pub entries_none : (es fs : List Entry) → es ≡ [] → EntriesTo es fs 0
entries_none es fs e = record {
  each = λ g. none (row_of g) es fs e;
  parts = subst (λ (l : List Entry). EachEntry IsNoneLeft (entries_of l)) (sym e) tt;
}

same_row : (g : RecData) (e f : Entry) → e.text ≡ f.text → IsSame (tree_of e.value) (tree_of f.value) → row_of g e ≡ row_of g f
same_row g e f s h =
    ap (λ (text : List ℕ). row (pattern (number_of g (tree_of e.value)).exact) text) s ∙ ap (λ (m : Meaning). row (pattern m.number.exact) f.text) (h.each g)

entry_parts : (es : List Entry) (e : Entry) → EachEntry IsNoneLeft (entries_of es) → EachPart IsNoneLeft (tree_of e.value) → EachEntry IsNoneLeft (entries_of (es ++ e ∷ []))
entry_parts [] e h w = (w, tt)
entry_parts (x ∷ xs) e h w = (h.0, entry_parts xs e h.1 w)

pub entries_more : (es fs : List Entry) (i : ℕ) (e f : Entry) → i < length fs → f ≡ get_or fs i f → e.text ≡ f.text → IsFolded (tree_of e.value) (tree_of f.value)
    → EntriesTo es fs i → EntriesTo (es ++ e ∷ []) fs (i + 1)
entries_more es fs i e f lt is s h k = record {
  each = λ g. more (row_of g) es fs i f e lt (same_row g e f s h.same ∙ ap (row_of g) is) (k.each g);
  parts = entry_parts es e k.parts h.parts;
}

pub entries_all : (es fs : List Entry) (i : ℕ) → length fs ≤ i → EntriesTo es fs i → FoldedEntries es fs
entries_all es fs i le k = record { same = record { each = λ g. all (row_of g) es fs i le (k.each g) }; parts = k.parts }
