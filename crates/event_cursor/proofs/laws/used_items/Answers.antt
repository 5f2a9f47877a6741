use Rattle.std.proofs.Common.{arith}
use Rattle.trace_base.proofs.Layouts.{carried}
use Rattle.event_cursor.proofs.UsedItems.{used_are}
use Rattle.event_cursor.proofs.laws.used_items.Goals as goal

pub returns : goal.returns
returns c = λ file lane stands held. used_are file lane (omega (arith, (carried lane.layout).page_least)) stands held
