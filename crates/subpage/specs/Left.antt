-- What an iterator over a sub-buffer's items has left.
use Rattle.std.specs.Prelude.{ℕ, List, [], ◌∷◌, ◌++◌, Option, Some, None, unwrap_or}
use Rattle.trace_base.specs.declared.order.Order.{Order}
use Rattle.subpage.specs.declared.loss.Loss.{Loss}
use Rattle.subpage.specs.ItemData.{ItemData, LossAt}
use Rattle.subpage.specs.Reading.{walk}

abbrev pub loss_items : Option Loss → List ItemData
loss_items None = []
loss_items (Some loss) = LossAt loss.time loss.count ∷ []

-- a loss that is still to be told, and the events of the bytes that are left
abbrev pub left : Option Loss → Order → ℕ → List ℕ → List ItemData
left loss order time rest = loss_items loss ++ unwrap_or (walk order time rest) []
