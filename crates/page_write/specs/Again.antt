-- What a packer is once the sub-buffer that it showed is no longer borrowed.
use Rattle.std.specs.Prelude.{◌≡◌, ⊤, []}
use Rattle.std.specs.Borrow.{follows_so, MutBor, Fml}
use mathlib.Core.Option.{none}
use mir.Syntax.{named}
use Rattle.page_write.specs.Packing.{Packing}
use Rattle.page_write.specs.contracts.packer.Packer.{the_row}

abbrev pub IsAgain : MutBor Packing → Fml
IsAgain s =
    let row = the_row (record { mir = named 0; lft = [] }) in
    follows_so row row s.ghost_name none (λ _ _. ⊤) (λ last. (last.layout ≡ s.now.layout) × (last.held ≡ s.now.held))
