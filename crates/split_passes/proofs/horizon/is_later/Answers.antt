use Rattle.std.proofs.Common.{refl, ◌<◌, ◌≡◌, arith}
use Rattle.std.proofs.lemmas.Bool.{ltb-true}
use Rattle.subpage.specs.Run.{time_at}
use Rattle.split_passes.proofs.HorizonLaws.{later_event}
use Rattle.split_passes.proofs.horizon.is_later.Goals as goal

pub returns-in-Some : goal.returns-in-Some
returns-in-Some c = λ late.
    let time : c.time.result ≡ time_at c.in-Some.next = c.time.ensures in
    let less : c.args.until < c.time.result = ltb-true _ _ late in
    later_event c.args.layout.now c.args.page.now c.args.mark _ c.args.until c.in-Some.next _ c.in-Some.ensures refl (omega (arith, less, time))
