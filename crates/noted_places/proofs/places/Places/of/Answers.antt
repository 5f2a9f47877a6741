use Rattle.std.proofs.Common.{◌≡◌, ℕ, ◌%◌, length, sym, ap, ◌∙◌, arith, rules}
use Rattle.std.proofs.lemmas.Grind.{common_steps}
use Rattle.noted_places.proofs.places.Places.of.Goals as goal

pub masked-slot-requires : goal.masked-slot-requires
masked-slot-requires c = c.self.invariant.1

pub returns-clause-value : goal.returns-clause-value
returns-clause-value c =
    let slot : c.masked-slot.result ≡ c.args.number % length c.args.self.now =
    c.masked-slot.ensures.value ∙ ap (λ (n : ℕ). c.args.number % n) (sym c.self.invariant.0 ∙ ap length c.self.view_is) in
    first_of (search rules, grind (arith, common_steps))

pub returns-clause-some : goal.returns-clause-some
returns-clause-some c = omega (arith, c.self.invariant.0, ap length c.self.view_is)
