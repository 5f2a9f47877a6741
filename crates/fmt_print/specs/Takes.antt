-- What was taken: a text was shown of some arguments, and these are left of them.
use Rattle.std.specs.Prelude.{◌≡◌, ℕ, List}
use Rattle.trace_base.specs.declared.tail.Tail.{Tail}
use Rattle.fmt_expr.specs.Tree.{Tree}
use Rattle.fmt_forms.specs.Shows.{Shows}
use Rattle.fmt_print.specs.declared.argument.Argument.{Argument}
use Rattle.fmt_print.specs.ArgumentView.{trees}

abbrev pub Takes : Tail → Tail → List Argument → List ℕ × List Tree → Type 0
Takes before now left what = Shows before now what.0 × (trees left ≡ what.1)
