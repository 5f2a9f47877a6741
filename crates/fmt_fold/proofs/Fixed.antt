-- A number that reads no record is the same over every record.
use Rattle.std.proofs.Common.{◌≡◌, ◌∙◌, ℕ, Bool, true, false, ◌&&◌, if◌then◌else◌, [], refl, sym, ap}
use Rattle.std.proofs.lemmas.Bool.{false≢true}
use Rattle.fmt_literal.specs.declared.ckind.CKind.{CKind}
use Rattle.fmt_expr.specs.Tree as tree
use Rattle.fmt_expr.specs.Tree.{Tree, Operands, no_operands, operand}
use Rattle.fmt_eval.specs.Numbers.{Number, number, is_true}
use Rattle.fmt_eval.specs.NumView.{exact_bits}
use Rattle.fmt_eval.specs.Operators.{applied, prefixed, cast}
use Rattle.fmt_eval.specs.Values.{RecData, number_of, folded, chosen}
use Rattle.fmt_fold.specs.Same.{Meaning, meaning_of, IsSame}
use Rattle.fmt_fold.specs.Constants.{is_written, all_written, is_fixed, is_constant, all_constant}
use Rattle.fmt_fold.specs.Folded.{IsFolded}
use Rattle.fmt_fold.proofs.Parts.{numeric, cast_of, choice_of}
use Rattle.fmt_fold.proofs.Written.{first, second, both}

-- a number is the same over every record where it is one over each
same_over : (t : Tree) → ((g h : RecData) → numeric (number_of g t) ≡ meaning_of h t) → (g h : RecData) → meaning_of g t ≡ meaning_of h t
same_over t is g h = sym (is g g) ∙ is g h

-- neither arm has a text or bytes
both_numeric : (holds : Bool) (n : Number) → numeric n ≡ record { kind = (numeric n).kind; number = n; text = if holds then [] else []; bytes = if holds then [] else [] }
both_numeric true n = refl
both_numeric false n = refl

mutual
  constant_numeric : (t : Tree) → is_constant t ≡ true → (g h : RecData) → numeric (number_of g t) ≡ meaning_of h t
  constant_numeric (tree.number bits kind) e g h = refl
  constant_numeric (tree.prefix op t) e g h = ap (λ (m : Meaning). numeric (prefixed op m.number)) (same_over t (constant_numeric t e) g h)
  constant_numeric (tree.cast to t) e g h =
      ap (λ (m : Meaning). numeric (cast to m.number)) (same_over t (constant_numeric t e) g h) ∙ ap (cast_of to) (constant_numeric t e h h)
  constant_numeric (tree.chain t rest) e g h =
      ap (λ (m : Meaning). numeric (folded g m.number rest)) (same_over t (constant_numeric t (first (is_constant t) (all_constant rest) e)) g h)
      ∙ ap numeric (folded_constant rest (second (is_constant t) (all_constant rest) e) (number_of h t) g h)
  constant_numeric (tree.choice test one other) e g h =
      let both = first (is_constant test && is_constant one) (is_constant other) e in
      let is_test = constant_numeric test (first (is_constant test) (is_constant one) both) in
      let is_one = constant_numeric one (second (is_constant test) (is_constant one) both) in
      let is_other = constant_numeric other (second (is_constant test && is_constant one) (is_constant other) e) in
      ap (λ (m : Meaning). numeric (chosen (is_true m.number) (number_of g one) (number_of g other))) (same_over test is_test g h)
      ∙ ap (λ (m : Meaning). numeric (chosen (is_true (number_of h test)) m.number (number_of g other))) (same_over one is_one g h)
      ∙ ap (λ (m : Meaning). numeric (chosen (is_true (number_of h test)) (number_of h one) m.number)) (same_over other is_other g h)
      ∙ both_numeric (is_true (number_of h test)) (chosen (is_true (number_of h test)) (number_of h one) (number_of h other))
      ∙ ap (λ (m : Meaning). choice_of (meaning_of h test) m (numeric (number_of h other))) (is_one h h)
      ∙ ap (choice_of (meaning_of h test) (meaning_of h one)) (is_other h h)
  constant_numeric t e g h = absurd (false≢true e)

  folded_constant : (rest : Operands) → all_constant rest ≡ true → (n : Number) (g h : RecData) → folded g n rest ≡ folded h n rest
  folded_constant no_operands e n g h = refl
  folded_constant (operand op t rest) e n g h =
      ap (λ (m : Meaning). folded g (applied op n m.number) rest) (same_over t (constant_numeric t (first (is_constant t) (all_constant rest) e)) g h)
      ∙ folded_constant rest (second (is_constant t) (all_constant rest) e) (applied op n (number_of h t)) g h

constant_same : (t : Tree) (bits : ℕ) (kind : CKind) (g : RecData) → is_constant t ≡ true → number kind (exact_bits kind bits) ≡ number_of g t → IsSame (tree.number bits kind) t
constant_same t bits kind g constant e = record { each = λ h. ap numeric e ∙ constant_numeric t constant g h }

pub constant_folded : (t : Tree) (bits : ℕ) (kind : CKind) (g : RecData) → is_constant t ≡ true → number kind (exact_bits kind bits) ≡ number_of g t → IsFolded (tree.number bits kind) t
constant_folded t bits kind g constant e = record { same = constant_same t bits kind g constant e; written = λ _. refl; parts = λ _. refl }

-- numbers that are written out are constants, and so is what is made of them
written_constant : (t : Tree) → is_written t ≡ true → is_constant t ≡ true
written_constant (tree.number bits kind) e = refl
written_constant t e = absurd (false≢true e)

all_written_constant : (rest : Operands) → all_written rest ≡ true → all_constant rest ≡ true
all_written_constant no_operands e = refl
all_written_constant (operand op t rest) e =
    both (is_constant t) (all_constant rest) (written_constant t (first (is_written t) (all_written rest) e)) (all_written_constant rest (second (is_written t) (all_written rest) e))

fixed_constant : (t : Tree) → is_fixed t ≡ true → is_constant t ≡ true
fixed_constant (tree.number bits kind) e = refl
fixed_constant (tree.prefix op t) e = written_constant t e
fixed_constant (tree.cast to t) e = written_constant t e
fixed_constant (tree.chain t rest) e =
    both (is_constant t) (all_constant rest) (written_constant t (first (is_written t) (all_written rest) e)) (all_written_constant rest (second (is_written t) (all_written rest) e))
fixed_constant (tree.choice test one other) e =
    let two = first (is_written test && is_written one) (is_written other) e in
    both (is_constant test && is_constant one) (is_constant other)
    (both (is_constant test) (is_constant one) (written_constant test (first (is_written test) (is_written one) two)) (written_constant one (second (is_written test) (is_written one) two)))
    (written_constant other (second (is_written test && is_written one) (is_written other) e))
fixed_constant t e = absurd (false≢true e)

pub fixed_same : (t : Tree) (bits : ℕ) (kind : CKind) (g : RecData) → is_fixed t ≡ true → number kind (exact_bits kind bits) ≡ number_of g t → IsSame (tree.number bits kind) t
fixed_same t bits kind g fixed e = constant_same t bits kind g (fixed_constant t fixed) e
