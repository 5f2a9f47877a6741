use Rattle.std.proofs.Common.{Some, subst, ◌∙◌}
use Rattle.trace_base.proofs.Layouts.{carried}
use Rattle.page_write.specs.Held.{told, Holds}
use Rattle.page_write.proofs.Holding.{told_is, holds_told}
use Rattle.page_write.proofs.Finished.{some_fits, sealed, sealed_reads}
use Rattle.page_write.proofs.packer.Packer.seal.Goals as goal

pub finish-requires-clause-fits : goal.finish-requires-clause-fits
finish-requires-clause-fits c =
    let l = c.self.inside.layout in
    let bytes = c.self.inside.into.now in
    let held = subst (λ p. Holds l p bytes (told l p bytes)) c.in-Some.is c.self.invariant.holds in
    some_fits l c.in-Some.page bytes _ held

pub invariant_of-self : goal.invariant_of-self
invariant_of-self c =
    let l = c.self.inside.layout in
    let bytes = c.self.inside.into.now in
    let held = subst (λ p. Holds l p bytes (told l p bytes)) c.in-Some.is c.self.invariant.holds in
    let now = sealed l c.in-Some.page bytes c.finish.new.into (told l (Some c.in-Some.page) bytes) (carried l) held c.finish.ensures in
    record {
      whole = c.finish.auto.into ∙ c.self.invariant.whole;
      holds = rw c.in-Some.is (holds_told l (Some c.in-Some.page) c.finish.new.into _ (carried l) now);
    }

pub returns-in-Some-clause-held : goal.returns-in-Some-clause-held
returns-in-Some-clause-held c =
    let l = c.self.inside.layout in
    let bytes = c.self.inside.into.now in
    let held = subst (λ p. Holds l p bytes (told l p bytes)) c.in-Some.is c.self.invariant.holds in
    let now = sealed l c.in-Some.page bytes c.finish.new.into (told l (Some c.in-Some.page) bytes) (carried l) held c.finish.ensures in
    rw (← c.self.view_is, c.in-Some.is) (told_is l (Some c.in-Some.page) c.finish.new.into _ (carried l) now)

pub returns-in-Some-clause-reads_back : goal.returns-in-Some-clause-reads_back
returns-in-Some-clause-reads_back c =
    let l = c.self.inside.layout in
    let bytes = c.self.inside.into.now in
    let held = subst (λ p. Holds l p bytes (told l p bytes)) c.in-Some.is c.self.invariant.holds in
    rw (← c.self.view_is, c.in-Some.is) (sealed_reads l c.in-Some.page bytes c.finish.new.into (told l (Some c.in-Some.page) bytes) (carried l) held c.finish.ensures)
