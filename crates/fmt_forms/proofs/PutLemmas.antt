-- A piece of no bytes need not be put.
use Rattle.std.proofs.Common.{◌≡◌, List, [], ◌∷◌, ℕ, length, refl, sym, ap, ◌∙◌, arith}
use Rattle.trace_base.specs.Kept.{put}
use Rattle.trace_base.specs.declared.tail.Tail.{Tail}
use Rattle.trace_base.specs.TailView.{kept}
use Rattle.trace_base.proofs.TailJoins.{put_nothing}

nil_is : (piece : List ℕ) → length piece ≡ 0 → [] ≡ piece
nil_is [] none = refl
nil_is (b ∷ piece) none = absurd (omega arith)

pub put_empty : (t : Tail) (piece : List ℕ) → length piece ≡ 0 → kept t ≡ put (kept t) piece
put_empty t piece none = sym (put_nothing t) ∙ ap (put (kept t)) (nil_is piece none)
