use Rattle.std.proofs.Common.{◌≡◌, [], length, Some, refl, subst, arith}
use Rattle.page_write.specs.Held.{told, Holds}
use Rattle.page_write.specs.PageBytes.{data_text}
use Rattle.page_write.proofs.Runs.{none_taken, taken}
use Rattle.page_write.proofs.packer.Packer.room.Goals as goal

pub returns-in-None : goal.returns-in-None
unfolding told
returns-in-None c =
    let l = c.self.inside.layout in
    let none : length (data_text l []) ≡ 0 = none_taken l [] refl in
    rw (← c.self.view_is, c.in-None.is) (omega (arith, none))

pub returns-in-Some : goal.returns-in-Some
returns-in-Some c =
    let l = c.self.inside.layout in
    let bytes = c.self.inside.into.now in
    let page = c.in-Some.page in
    let held = subst (λ p. Holds l p bytes (told l p bytes)) c.in-Some.is c.self.invariant.holds in
    let t = taken l page bytes (told l (Some page) bytes) held in
    rw (← c.self.view_is, c.in-Some.is) (omega (arith, t.0, t.1, c.len_of_lost.ensures))

pub overflow_sub-result : goal.overflow_sub-result
overflow_sub-result c =
    let l = c.self.inside.layout in
    let bytes = c.self.inside.into.now in
    let page = c.in-Some.page in
    let held = subst (λ p. Holds l p bytes (told l p bytes)) c.in-Some.is c.self.invariant.holds in
    omega (arith, (taken l page bytes (told l (Some page) bytes) held).1, c.len_of_lost.ensures)
