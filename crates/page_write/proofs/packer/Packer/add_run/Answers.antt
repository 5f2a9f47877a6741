use Rattle.std.proofs.Common.{length, Some, sym, subst, ◌∙◌, arith}
use Rattle.trace_base.proofs.Layouts.{carried}
use Rattle.page_write.specs.Held.{told, Holds}
use Rattle.page_write.specs.Packing.{Packing}
use Rattle.page_write.specs.Adding.{HasRoom, HasRunAfter, IsRunAfter}
use Rattle.page_write.proofs.Holding.{told_is, holds_told}
use Rattle.page_write.proofs.Runs.{taken, holds_after, one_held}
use Rattle.page_write.proofs.packer.Packer.add_run.Goals as goal

pub add_run_to-page-requires-clause-room : goal.add_run_to-page-requires-clause-room
add_run_to-page-requires-clause-room c =
    let l = c.self.inside.layout in
    let bytes = c.self.inside.into.now in
    let page = c.in-Some.page in
    let run = c.args.run.now in
    let held = subst (λ p. Holds l p bytes (told l p bytes)) c.in-Some.is c.self.invariant.holds in
    let t = taken l page bytes (told l (Some page) bytes) held in
    let room : HasRoom l (told l c.self.inside.page bytes) (length run) = subst (λ (p : Packing). HasRoom p.layout p.held (length run)) (sym c.self.view_is) c.requires.room in
    let room_now : HasRoom l (told l (Some page) bytes) (length run) = subst (λ p. HasRoom l (told l p bytes) (length run)) c.in-Some.is room in
    omega (arith, t.0, room_now)

pub invariant_of-self : goal.invariant_of-self
invariant_of-self c =
    let l = c.self.inside.layout in
    let bytes = c.self.inside.into.now in
    let page = c.in-Some.page in
    let next = c.add_run_to-page.result in
    let new = c.add_run_to-page.new.into in
    let run = c.args.run.now in
    let before = c.self.invariant in
    let held = subst (λ p. Holds l p bytes (told l p bytes)) c.in-Some.is before.holds in
    let has : HasRunAfter l (told l c.self.inside.page bytes) run c.args.end = subst (λ (p : Packing). HasRunAfter p.layout p.held run c.args.end) (sym c.self.view_is) c.requires.run in
    let behind : IsRunAfter l (told l (Some page) bytes) run c.args.end has.items = subst (λ p. IsRunAfter l (told l p bytes) run c.args.end has.items) c.in-Some.is has.run in
    let now = holds_after l page next bytes new run c.args.end (told l (Some page) bytes) has.items held c.add_run_to-page.ensures behind in
    record { whole = c.add_run_to-page.auto.into ∙ before.whole; holds = holds_told l (Some next) new _ (carried l) now }

pub returns-in-Some-clause-adds : goal.returns-in-Some-clause-adds
returns-in-Some-clause-adds c = λ xs is.
    let l = c.self.inside.layout in
    let bytes = c.self.inside.into.now in
    let page = c.in-Some.page in
    let next = c.add_run_to-page.result in
    let new = c.add_run_to-page.new.into in
    let run = c.args.run.now in
    let before = c.self.invariant in
    let held = subst (λ p. Holds l p bytes (told l p bytes)) c.in-Some.is before.holds in
    let here : IsRunAfter l (told l c.self.inside.page bytes) run c.args.end xs = subst (λ (p : Packing). IsRunAfter p.layout p.held run c.args.end xs) (sym c.self.view_is) is in
    let behind : IsRunAfter l (told l (Some page) bytes) run c.args.end xs = subst (λ p. IsRunAfter l (told l p bytes) run c.args.end xs) c.in-Some.is here in
    let now = holds_after l page next bytes new run c.args.end (told l (Some page) bytes) xs held c.add_run_to-page.ensures behind in
    rw (← c.self.view_is, c.in-Some.is) (told_is l (Some next) new _ (carried l) now)

pub returns-in-Some-clause-one : goal.returns-in-Some-clause-one
returns-in-Some-clause-one c =
    let l = c.self.inside.layout in
    let bytes = c.self.inside.into.now in
    let page = c.in-Some.page in
    let next = c.add_run_to-page.result in
    let new = c.add_run_to-page.new.into in
    let run = c.args.run.now in
    let before = c.self.invariant in
    let held = subst (λ p. Holds l p bytes (told l p bytes)) c.in-Some.is before.holds in
    let has : HasRunAfter l (told l c.self.inside.page bytes) run c.args.end = subst (λ (p : Packing). HasRunAfter p.layout p.held run c.args.end) (sym c.self.view_is) c.requires.run in
    let behind : IsRunAfter l (told l (Some page) bytes) run c.args.end has.items = subst (λ p. IsRunAfter l (told l p bytes) run c.args.end has.items) c.in-Some.is has.run in
    let now = holds_after l page next bytes new run c.args.end (told l (Some page) bytes) has.items held c.add_run_to-page.ensures behind in
    rw (← c.self.view_is) (one_held l (Some next) new (told l (Some next) new) (holds_told l (Some next) new _ (carried l) now))
