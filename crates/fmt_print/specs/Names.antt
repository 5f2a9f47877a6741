-- Short texts that are kept, and the trees whose texts they are.
use Rattle.std.specs.Prelude.{◌≡◌, ℕ, List, take}
use Rattle.fmt_expr.specs.Tree as tree
use Rattle.fmt_expr.specs.Tree.{Tree}
use Rattle.trace_base.specs.Kept.{until_nul}
use Rattle.fmt_eval.specs.Texts.{text_of}
use Rattle.fmt_eval.specs.Values.{RecData}
use Rattle.fmt_print.specs.declared.name.Name.{Name}

abbrev pub name_text : Name → List ℕ
name_text n = take n.len n.front

-- over every record, the text of the tree up to its first NUL is the name
pub record IsNamed (t : Tree) (n : Name) : Type 0 where
  pub each : (g : RecData) → name_text n ≡ until_nul (text_of g t)

-- the arms of a choice; of any other tree the tree itself
abbrev pub yes_in : Tree → Tree
yes_in (tree.choice test a b) = a
yes_in t = t

abbrev pub no_in : Tree → Tree
no_in (tree.choice test a b) = b
no_in t = t
