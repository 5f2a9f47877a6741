use Rattle.std.proofs.Common.{◌≡◌, ◌∙◌, ℕ, List, ap, length, subst, IfOk}
use Rattle.std.specs.Map.{keys_of}
use Rattle.symbols.specs.NameMap.{Pair}
use Rattle.noted_places.specs.Noted.{noted}
use Rattle.symbols.proofs.table.NameTable.places.Goals as goal

pub returns : goal.returns
returns c =
    subst (λ (ns : List ℕ). IfOk c.noted.result (λ places. places ≡ noted (length places) ns))
    (c.deref.ensures.value ∙ c.in_ok-keys.ensures ∙ ap (λ (ps : List Pair). keys_of ps) c.self.view_is) c.noted.ensures.places
