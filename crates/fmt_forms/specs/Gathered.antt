-- What was gathered so far: what a tail holds, of all that stays through cuts.
use Rattle.std.specs.Prelude.{ℕ, List}
use Rattle.trace_base.specs.declared.tail.Tail.{Tail}
use Rattle.trace_base.specs.Kept.{Held, put_held}
use Rattle.trace_base.specs.TailView.{held, lent}

-- the slice that the tail was lent, by its name, and what it holds
pub record Gathered : Type 0 where
  pub slice : ℕ
  pub holds : Held

unfoldable pub gathered : Tail → Gathered
gathered tail = record { slice = lent tail; holds = held tail }

-- with a further text
unfoldable pub joined : Gathered → List ℕ → Gathered
joined so_far text = record { slice = so_far.slice; holds = put_held so_far.holds text }
