-- Arguments that were made from the first of the trees of a print fmt.
use Rattle.std.proofs.Common.{◌≡◌, ℕ, ◌+◌, ◌<◌, ◌≤◌, List, [], ◌∷◌, ◌++◌, length, map, drop, get_or, ap, sym, ◌∙◌, append_assoc}
use Rattle.std.proofs.lemmas.List.{append-nil, map-append, drop_more, drop_all}
use Rattle.fmt_expr.specs.Tree.{Tree}
use Rattle.fmt_expr.specs.TreeView.{tree_of}
use Rattle.fmt_expr.specs.declared.expr.Expr.{Expr}
use Rattle.fmt_eval.specs.Values.{RecData}
use Rattle.fmt_fold.specs.Same.{Meaning, meaning_of, IsSame, SameTrees}
use Rattle.fmt_print.specs.ArgumentView.{argument_tree}
use Rattle.fmt_print.specs.declared.argument.Argument.{Argument}

-- what the trees are, of those that were made and of those that are left
abbrev meanings : RecData → List Argument → List Expr → List Meaning
meanings g made left = map (meaning_of g) (map argument_tree made) ++ map (meaning_of g) (map tree_of left)

pub record ArgumentsTo (made : List Argument) (args : List Expr) (i : ℕ) : Type 0 where
  pub each : (g : RecData) → meanings g made (drop i args) ≡ map (meaning_of g) (map tree_of args)

pub arguments_none : (made : List Argument) (args : List Expr) → made ≡ [] → ArgumentsTo made args 0
arguments_none made args e = record { each = λ g. ap (λ (l : List Argument). meanings g l args) e }

pub arguments_more : (made : List Argument) (args : List Expr) (i : ℕ) (d : Expr) (a : Argument) (t : Tree) → i < length args → argument_tree a ≡ t → IsSame t (tree_of (get_or args i d))
    → ArgumentsTo made args i → ArgumentsTo (made ++ a ∷ []) args (i + 1)
arguments_more made args i d a t lt e h k = record {
  each = λ g.
      let rest = map (meaning_of g) (map tree_of (drop (i + 1) args)) in
      let first = map (meaning_of g) (map argument_tree made) in
      ap (λ (l : List Meaning). l ++ rest)
      (ap (map (meaning_of g)) (map-append argument_tree made (a ∷ [])) ∙ map-append (meaning_of g) (map argument_tree made) (argument_tree a ∷ []))
      ∙ append_assoc first (meaning_of g (argument_tree a) ∷ []) rest
      ∙ ap (λ (m : Meaning). first ++ (m ∷ rest)) (ap (meaning_of g) e ∙ h.each g)
      ∙ ap (meanings g made) (sym (drop_more args i d lt))
      ∙ k.each g;
}

pub arguments_all : (made : List Argument) (args : List Expr) (i : ℕ) → length args ≤ i → ArgumentsTo made args i → SameTrees (map argument_tree made) (map tree_of args)
arguments_all made args i le k = record {
  each = λ g. sym (append-nil (map (meaning_of g) (map argument_tree made))) ∙ ap (meanings g made) (sym (drop_all i args le)) ∙ k.each g;
}
