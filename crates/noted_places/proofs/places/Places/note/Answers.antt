use Rattle.std.proofs.Common.{◌≡◌, ℕ, ◌%◌, List, length, set, sym, ap, ◌∙◌}
use Rattle.std.proofs.lemmas.List.{length-set}
use Rattle.noted_places.proofs.places.Places.note.Goals as goal

pub masked-slot-requires : goal.masked-slot-requires
masked-slot-requires c = c.self.invariant.1

pub invariant_of-self : goal.invariant_of-self
invariant_of-self c = (length-set c.self.inside.slots.items c.masked-slot.result c.args.place ∙ c.self.invariant.0, c.self.invariant.1)

pub returns : goal.returns
returns c =
    let slots = c.self.inside.slots.items in
    let slot : c.masked-slot.result ≡ c.args.number % length slots = c.masked-slot.ensures.value ∙ ap (λ (n : ℕ). c.args.number % n) (sym c.self.invariant.0) in
    ap (λ (i : ℕ). set slots i c.args.place) slot ∙ ap (λ (l : List ℕ). set l (c.args.number % length l) c.args.place) c.self.view_is
