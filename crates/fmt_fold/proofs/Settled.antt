-- A tree that is written out where it is made of numbers that are.
use Rattle.std.proofs.Common.{◌≡◌, ◌∙◌, ℕ, true, false, refl, sym}
use Rattle.std.proofs.lemmas.Bool.{false≢true}
use Rattle.fmt_literal.specs.declared.ckind.CKind.{CKind}
use Rattle.fmt_expr.specs.Tree as tree
use Rattle.fmt_expr.specs.Tree.{Tree}
use Rattle.fmt_eval.specs.Numbers.{number}
use Rattle.fmt_eval.specs.NumView.{exact_bits}
use Rattle.fmt_eval.specs.Values.{RecData, number_of}
use Rattle.fmt_fold.specs.Constants.{is_fixed}
use Rattle.fmt_fold.specs.Folded.{IsSettled}
use Rattle.fmt_fold.proofs.Parts.{same_refl}
use Rattle.fmt_fold.proofs.Fixed.{fixed_same}

pub settled_as_is : (t : Tree) → is_fixed t ≡ false → IsSettled t t
settled_as_is t not = record {
  same = same_refl t;
  written = λ fixed. absurd (false≢true (sym not ∙ fixed));
  kept = λ _. refl;
}

pub settled_number : (t : Tree) (bits : ℕ) (kind : CKind) (g : RecData) → is_fixed t ≡ true → number kind (exact_bits kind bits) ≡ number_of g t → IsSettled (tree.number bits kind) t
settled_number t bits kind g fixed e = record {
  same = fixed_same t bits kind g fixed e;
  written = λ _. refl;
  kept = λ not. absurd (false≢true (sym not ∙ fixed));
}
