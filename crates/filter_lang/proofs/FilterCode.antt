-- A code for the trees of filters, by which a proof tells them apart: the cells of a tree, each after those of its parts.
use Rattle.std.specs.Prelude.{◌≡◌, ◌⊎◌, ℕ, List, [], ◌∷◌, Option}
use Rattle.std.specs.Coded.{Coded, code_by, coded_ℕ, coded_list, coded_option, coded×, coded⊎}
use mathlib.Core.Path.{refl, ap, ◌∙◌}
use mathlib.Core.Logic.{inl, inr}
use base.Stored.{coded_unit}
use Rattle.c_operators.specs.declared.binary.BinaryOp.{BinaryOp}
use Rattle.c_operators.specs.contracts.binary.BinaryOp as binary
use Rattle.filter_lang.specs.contracts.expr.FilterPrefix as before
use Rattle.filter_lang.specs.declared.expr.FilterPrefix.{FilterPrefix}
use Rattle.filter_lang.specs.Filter.{EventNameData, FilterData}
use Rattle.filter_lang.specs.Tree.{Tree, number, text, field, prefix, chain, Operands, no_operands, operand}

pub data Cell : Type 0 where
  a_number : ℕ → Cell
  a_text : List ℕ → Cell
  a_field : List ℕ → Cell
  a_prefix : FilterPrefix → Cell
  a_chain : Cell
  an_end : Cell
  an_operand : BinaryOp → Cell

-- the cells of a tree before these
abbrev mutual
  pub cells : Tree → List Cell → List Cell
  cells (number n) more = a_number n ∷ more
  cells (text bytes) more = a_text bytes ∷ more
  cells (field name) more = a_field name ∷ more
  cells (prefix op t) more = cells t (a_prefix op ∷ more)
  cells (chain t rest) more = cells_in rest (cells t (a_chain ∷ more))

  pub cells_in : Operands → List Cell → List Cell
  cells_in no_operands more = an_end ∷ more
  cells_in (operand op t rest) more = cells_in rest (cells t (an_operand op ∷ more))

-- the trees that cells leave, on those before them
abbrev pub trees : List Cell → List Tree → List Operands → List Tree
trees [] ts os = ts
trees (a_number n ∷ more) ts os = trees more (number n ∷ ts) os
trees (a_text bytes ∷ more) ts os = trees more (text bytes ∷ ts) os
trees (a_field name ∷ more) ts os = trees more (field name ∷ ts) os
trees (a_prefix op ∷ more) [] os = []
trees (a_prefix op ∷ more) (t ∷ ts) os = trees more (prefix op t ∷ ts) os
trees (an_end ∷ more) ts os = trees more ts (no_operands ∷ os)
trees (a_chain ∷ more) [] os = []
trees (a_chain ∷ more) (t ∷ ts) [] = []
trees (a_chain ∷ more) (t ∷ ts) (o ∷ os) = trees more (chain t o ∷ ts) os
trees (an_operand op ∷ more) [] os = []
trees (an_operand op ∷ more) (t ∷ ts) [] = []
trees (an_operand op ∷ more) (t ∷ ts) (o ∷ os) = trees more ts (operand op t o ∷ os)

mutual
  pub trees_again : (t : Tree) (more : List Cell) (ts : List Tree) (os : List Operands) → trees (cells t more) ts os ≡ trees more (t ∷ ts) os
  trees_again (number n) more ts os = refl
  trees_again (text bytes) more ts os = refl
  trees_again (field name) more ts os = refl
  trees_again (prefix op t) more ts os = trees_again t (a_prefix op ∷ more) ts os
  trees_again (chain t rest) more ts os = operands_again rest (cells t (a_chain ∷ more)) ts os ∙ trees_again t (a_chain ∷ more) ts (rest ∷ os)

  pub operands_again : (o : Operands) (more : List Cell) (ts : List Tree) (os : List Operands) → trees (cells_in o more) ts os ≡ trees more ts (o ∷ os)
  operands_again no_operands more ts os = refl
  operands_again (operand op t rest) more ts os = operands_again rest (cells t (an_operand op ∷ more)) ts os ∙ trees_again t (an_operand op ∷ more) ts (rest ∷ os)

abbrev pub first_tree : List Tree → Tree
first_tree [] = number 0
first_tree (t ∷ ts) = t

pub tree_again : (t : Tree) → first_tree (trees (cells t []) [] []) ≡ t
tree_again t = ap first_tree (trees_again t [] [] [])

-- a cell as one of seven
abbrev pub Kinds : Type 0
Kinds = ℕ ⊎ (List ℕ ⊎ (List ℕ ⊎ (FilterPrefix ⊎ (BinaryOp ⊎ (Unit {0} ⊎ Unit {0})))))

abbrev pub kind_of : Cell → Kinds
kind_of (a_number n) = inl n
kind_of (a_text bytes) = inr (inl bytes)
kind_of (a_field name) = inr (inr (inl name))
kind_of (a_prefix o) = inr (inr (inr (inl o)))
kind_of (an_operand o) = inr (inr (inr (inr (inl o))))
kind_of a_chain = inr (inr (inr (inr (inr (inl tt)))))
kind_of an_end = inr (inr (inr (inr (inr (inr tt)))))

abbrev pub cell_of : Kinds → Cell
cell_of (inl n) = a_number n
cell_of (inr (inl bytes)) = a_text bytes
cell_of (inr (inr (inl name))) = a_field name
cell_of (inr (inr (inr (inl o)))) = a_prefix o
cell_of (inr (inr (inr (inr (inl o))))) = an_operand o
cell_of (inr (inr (inr (inr (inr (inl _)))))) = a_chain
cell_of (inr (inr (inr (inr (inr (inr _)))))) = an_end

pub cell_again : (c : Cell) → cell_of (kind_of c) ≡ c
cell_again (a_number n) = refl
cell_again (a_text bytes) = refl
cell_again (a_field name) = refl
cell_again (a_prefix o) = refl
cell_again (an_operand o) = refl
cell_again a_chain = refl
cell_again an_end = refl

abbrev pub coded_cell : Coded Cell
coded_cell =
    code_by Kinds (coded⊎ coded_ℕ (coded⊎ (coded_list coded_ℕ) (coded⊎ (coded_list coded_ℕ) (coded⊎ before.the_row.coded (coded⊎ binary.the_row.coded (coded⊎ coded_unit coded_unit))))))
    kind_of cell_of cell_again

abbrev pub coded_tree : Coded Tree
coded_tree = code_by (List Cell) (coded_list coded_cell) (λ t. cells t []) (λ cs. first_tree (trees cs [] [])) tree_again

abbrev pub coded_name : Coded EventNameData
coded_name = code_by (List ℕ × Option (List ℕ)) (coded× (coded_list coded_ℕ) (coded_option (coded_list coded_ℕ))) (λ n. (n.first, n.second)) (λ p. record { first = p.0; second = p.1 }) (λ _. refl)

abbrev pub coded_filter : Coded FilterData
coded_filter = code_by (List EventNameData × Option Tree) (coded× (coded_list coded_name) (coded_option coded_tree)) (λ f. (f.events, f.cond)) (λ p. record { events = p.0; cond = p.1 }) (λ _. refl)
