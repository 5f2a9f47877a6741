-- What is known of an argument before any record is read.
use Rattle.std.specs.Prelude.{◌≡◌, Bool, true, false, take, drop}
use Rattle.fmt_expr.specs.Kinds.{kind_of}
use Rattle.fmt_expr.specs.Tree as tree
use Rattle.fmt_expr.specs.Tree.{Tree}
use Rattle.fmt_expr.specs.declared.kinds.Kind.TheVariants.{Text}
use Rattle.trace_base.specs.Kept.{until_nul}
use Rattle.fmt_eval.specs.Texts.{text_of}
use Rattle.fmt_eval.specs.Values.{RecData}
use Rattle.fmt_eval.specs.declared.read.Read.{Read}
use Rattle.fmt_eval.specs.declared.read.Read.TheVariants.{Half, Whole, Walk}
use Rattle.fmt_print.specs.declared.argument.TextSlot.{TextSlot}

-- whether a number is read from eight bytes
abbrev pub is_whole : Read → Bool
is_whole (Half at signed) = false
is_whole (Whole at signed) = true
is_whole Walk = false

-- the test of a choice; of any other tree the tree itself
abbrev pub test_in : Tree → Tree
test_in (tree.choice test a b) = test
test_in t = t

-- over every record, the text of the tree is what stands at a place, up to its first NUL
pub record StandsAt (t : Tree) (place : TextSlot) : Type 0 where
  pub kind : kind_of t ≡ Text
  pub each : (g : RecData) → text_of g t ≡ until_nul (take place.len (drop place.at g.payload))
