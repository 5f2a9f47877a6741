use Rattle.std.proofs.Common.{◌≤◌, length, sym, ap, ◌∙◌, arith}
use Rattle.symbols.specs.Maps.{Maps}
use Rattle.symbols.specs.NameMap.{first_at}
use Rattle.symbols.proofs.PlaceLemmas.{no_task}
use Rattle.symbols.proofs.maps.Symbols.place.Goals as goal

pub returns-else-place-len : goal.returns-else-place-len
returns-else-place-len c =
    let s = c.self.inside in
    let past : length s.tasks ≤ c.of-place.result = omega (arith, c.if-place-len.false, c.len.ensures) in
    ap (λ (m : Maps). first_at c.args.pid m.tasks) (sym c.self.view_is)
    ∙ no_task s.tasks s.task_places c.args.pid c.of-place.result c.self.invariant c.of-place.ensures.some c.of-place.ensures.value past
