use Rattle.std.proofs.Common.{ℕ, List, subst}
use Rattle.page_write.specs.PageBytes.{IsPut}
use Rattle.page_write.proofs.Putting.{near_text}
use Rattle.page_write.proofs.put.put_record.Goals as goal

pub returns-then-step : goal.returns-then-step
returns-then-step c =
    subst (λ (text : List ℕ). IsPut c.args.at text c.args.into.now c.put_event.new.into c.put_event.result)
    (near_text c.args.order c.args.step c.args.payload.now c.if-step.true) c.put_event.ensures
