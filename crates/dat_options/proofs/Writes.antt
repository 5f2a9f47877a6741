-- What a sink gained of a text by writing a part of it.
use Rattle.std.proofs.Common.{◌≡◌, ℕ, List, [], ◌∷◌, ◌++◌, Option, refl}
use Rattle.trace_base.specs.declared.order.Order.{Order}
use Rattle.trace_base.specs.declared.order.Order.TheVariants.{Little, Big}
use Rattle.trace_base.specs.Number.{bytes_of}
use Rattle.trace_outside.specs.Writing.{GainedPrefix}
use Rattle.trace_outside.proofs.Gains.{gained_nothing, prefix_behind}

pub prefix_in_front : (before now : Option (List ℕ)) (one two : List ℕ) → GainedPrefix before now one → GainedPrefix before now (one ++ two)
prefix_in_front before now one two gained = prefix_behind before before now [] one two (one ++ two) refl (gained_nothing before) gained

-- the end of a list of options
pub end_bytes : (order : Order) → bytes_of order 2 0 ≡ 0 ∷ 0 ∷ []
end_bytes Little = refl
end_bytes Big = refl
