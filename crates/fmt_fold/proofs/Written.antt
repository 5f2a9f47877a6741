-- Rows of operands that are constant, and that are written out.
use Rattle.std.proofs.Common.{◌≡◌, ℕ, ◌+◌, ◌<◌, Bool, true, false, ◌&&◌, List, [], ◌∷◌, ◌++◌, length, drop, get_or, refl, ap, sym, ◌∙◌}
use Rattle.std.proofs.lemmas.Bool.{false≢true}
use Rattle.std.proofs.lemmas.List.{drop_more}
use Rattle.fmt_expr.specs.TreeView.{tree_of, operands_of}
use Rattle.fmt_expr.specs.declared.expr.Operand.{Operand}
use Rattle.fmt_fold.specs.Constants.{is_written, all_written, is_constant, all_constant}

pub first : (a b : Bool) → a && b ≡ true → a ≡ true
first true b e = refl
first false b e = e

pub second : (a b : Bool) → a && b ≡ true → b ≡ true
second true b e = e
second false b e = absurd (false≢true e)

pub both : (a b : Bool) → a ≡ true → b ≡ true → a && b ≡ true
both true b e f = f
both false b e f = e

pub constant_row : (xs : List Operand) (i : ℕ) (d : Operand) → i < length xs → all_constant (operands_of (drop i xs)) ≡ true
    → (is_constant (tree_of (get_or xs i d).value) ≡ true) × (all_constant (operands_of (drop (i + 1) xs)) ≡ true)
constant_row xs i d lt e =
    let x = get_or xs i d in
    let rest = drop (i + 1) xs in
    let all = sym (ap (λ (os : List Operand). all_constant (operands_of os)) (drop_more xs i d lt)) ∙ e in
    (first (is_constant (tree_of x.value)) (all_constant (operands_of rest)) all, second (is_constant (tree_of x.value)) (all_constant (operands_of rest)) all)

pub written_more : (xs : List Operand) (o : Operand) → all_written (operands_of xs) ≡ true → is_written (tree_of o.value) ≡ true → all_written (operands_of (xs ++ o ∷ [])) ≡ true
written_more [] o e w = both (is_written (tree_of o.value)) true w refl
written_more (x ∷ xs) o e w =
    both (is_written (tree_of x.value)) (all_written (operands_of (xs ++ o ∷ []))) (first (is_written (tree_of x.value)) (all_written (operands_of xs)) e)
    (written_more xs o (second (is_written (tree_of x.value)) (all_written (operands_of xs)) e) w)
