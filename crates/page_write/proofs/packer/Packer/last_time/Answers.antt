use Rattle.std.proofs.Common.{Some, refl, sym, subst}
use Rattle.page_write.specs.Held.{told, Holds}
use Rattle.page_write.proofs.Runs.{last_held}
use Rattle.page_write.proofs.packer.Packer.last_time.Goals as goal

pub returns-in-Some : goal.returns-in-Some
returns-in-Some c =
    let l = c.self.inside.layout in
    let bytes = c.self.inside.into.now in
    let held = subst (λ p. Holds l p bytes (told l p bytes)) c.in-Some.is c.self.invariant.holds in
    rw (← c.self.view_is, c.in-Some.is) (sym (last_held l c.in-Some.page bytes (told l (Some c.in-Some.page) bytes) held))

pub returns-in-None : goal.returns-in-None
unfolding told
returns-in-None c = rw (← c.self.view_is, c.in-None.is) refl
