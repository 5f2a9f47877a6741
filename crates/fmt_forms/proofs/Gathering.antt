-- Texts that are gathered one after another.
use Rattle.std.proofs.Common.{◌≡◌, ℕ, List, [], ◌∷◌, ◌++◌, length, sym, ap, ◌∙◌, arith}
use Rattle.trace_base.specs.declared.tail.Tail.{Tail}
use Rattle.trace_base.specs.Kept.{Held, put, put_held, held_of}
use Rattle.trace_base.specs.TailView.{kept, held, lent}
use Rattle.trace_base.proofs.TailJoins.{put_nothing, put_held_twice, held_put}
use Rattle.fmt_forms.specs.Gathered.{Gathered, gathered, joined}

abbrev made : ℕ → Held → Gathered
made slice holds = record { slice = slice; holds = holds }

pub joined_twice : (so_far : Gathered) (xs ys : List ℕ) → joined (joined so_far xs) ys ≡ joined so_far (xs ++ ys)
unfolding joined
joined_twice so_far xs ys = ap (made so_far.slice) (put_held_twice so_far.holds xs ys)

held_nothing : (tail : Tail) → put_held (held tail) [] ≡ held tail
held_nothing tail = sym (held_put (kept tail) []) ∙ ap held_of (put_nothing tail)

pub nothing_joined : (tail : Tail) → gathered tail ≡ joined (gathered tail) []
unfolding gathered joined
nothing_joined tail = ap (made (lent tail)) (sym (held_nothing tail))

pub empty_shown : (tail : Tail) (text : List ℕ) → length text ≡ 0 → gathered tail ≡ joined (gathered tail) text
empty_shown tail [] none = nothing_joined tail
empty_shown tail (b ∷ text) none = absurd (omega arith)

-- a text that was put
pub put_shown : (before tail : Tail) (text : List ℕ) → lent tail ≡ lent before → held tail ≡ put_held (held before) text → gathered tail ≡ joined (gathered before) text
unfolding gathered joined
put_shown before tail text slice is = ap (λ (n : ℕ). made n (held tail)) slice ∙ ap (made (lent before)) is

pub kept_shown : (before tail : Tail) (text : List ℕ) → lent tail ≡ lent before → kept tail ≡ put (kept before) text → gathered tail ≡ joined (gathered before) text
kept_shown before tail text slice is = put_shown before tail text slice (ap held_of is ∙ held_put (kept before) text)

-- what the tail holds of all that was gathered
pub held_all : (before tail : Tail) (text : List ℕ) → gathered tail ≡ joined (gathered before) text → held tail ≡ put_held (held before) text
unfolding gathered joined
held_all before tail text is = ap (λ (g : Gathered). g.holds) is

pub lent_all : (before tail : Tail) (text : List ℕ) → gathered tail ≡ joined (gathered before) text → lent tail ≡ lent before
unfolding gathered joined
lent_all before tail text is = ap (λ (g : Gathered). g.slice) is
