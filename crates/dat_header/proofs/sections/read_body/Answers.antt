use Rattle.std.proofs.Common.{ap, refl, sym, arith, List, ℕ}
use Rattle.std.proofs.lemmas.Result.{err_from_is_err_and}
use Rattle.dat_header.specs.declared.pieces.LastSection.{LastSection}
use Rattle.dat_header.specs.declared.pieces.LastSection.TheVariants.{Latency, Fly}
use Rattle.dat_header.specs.Header.{body_at}
use Rattle.dat_header.proofs.Steps.{steps_then, steps_failed, steps_here, steps_same, steps_found, steps_fault}
use Rattle.dat_header.proofs.sections.read_body.Goals as goal

pub returns-in-Latency-clause-steps : goal.returns-in-Latency-clause-steps
returns-in-Latency-clause-steps g c =
    let e = c.args in
    steps_same _ (λ (bytes : List ℕ). body_at e.order e.cpus Latency bytes e.at) _ _ _ _ _ (λ bytes. ap (λ (last : LastSection). body_at e.order e.cpus last bytes e.at) (sym c.in-Latency.is))
    (steps_here _ _ _ _ _ refl refl c.requires.inside)

pub returns-in_err-parts-in-Fly-clause-steps : goal.returns-in_err-parts-in-Fly-clause-steps
returns-in_err-parts-in-Fly-clause-steps g c =
    let e = c.args in
    let p = err_from_is_err_and c.from_residual.result c.from_residual.ensures.1 in
    let found = c.in_err-parts-in-Fly.ensures in
    rw (p.1, p.2) (steps_same _ (λ (bytes : List ℕ). body_at e.order e.cpus Fly bytes e.at) _ _ _ _ _ (λ bytes. ap (λ (last : LastSection). body_at e.order e.cpus last bytes e.at) (sym c.in-Fly.is))
    (steps_failed _ _ _ _ _ _ _ _ (steps_fault _ _ _ _ _ _ found.exact found.keeps.bytes found.keeps.size found.keeps.later found.cause found.kept found.most)))

pub returns-in_ok-parts-in-Fly-clause-steps : goal.returns-in_ok-parts-in-Fly-clause-steps
returns-in_ok-parts-in-Fly-clause-steps g c =
    let e = c.args in
    let found = c.in_ok-parts-in-Fly.ensures in
    steps_same _ (λ (bytes : List ℕ). body_at e.order e.cpus Fly bytes e.at) _ _ _ _ _ (λ bytes. ap (λ (last : LastSection). body_at e.order e.cpus last bytes e.at) (sym c.in-Fly.is))
    (steps_then _ _ _ _ _ _ _ _ _ _ (steps_found _ _ _ _ _ _ found.exact found.keeps.bytes found.keeps.size found.kept (omega (arith, found.reads)) (omega (arith, found.behind)) found.inside) (steps_here _ _ _ _ _ refl refl (omega (arith, found.inside, found.keeps.size))))
