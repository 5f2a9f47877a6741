-- What was shown: a text after what was gathered before, from one tail to another.
use Rattle.std.specs.Prelude.{◌≡◌, ℕ, List}
use Rattle.trace_base.specs.declared.tail.Tail.{Tail}
use Rattle.fmt_forms.specs.Gathered.{gathered, joined}

abbrev pub Shows : Tail → Tail → List ℕ → Type 0
Shows before now text = gathered now ≡ joined (gathered before) text
