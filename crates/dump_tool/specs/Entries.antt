-- Entries that are put one after another, and lists of them.
use Rattle.std.specs.Prelude.{Result, ℕ, List, ◌++◌, length}
use Rattle.std.specs.Borrow.{MutBor}
use Rattle.std.specs.List.{flat_map}
use Rattle.trace_outside.specs.Pending.{OnWay, PutsText}
use Rattle.dump_tool.specs.Texts.{heading}

-- the texts of a list's entries, below a line with its name and their number
abbrev pub list_text : {X : Type 0} → List ℕ → (X → List ℕ) → List X → List ℕ
list_text name text entries = heading name (length entries) ++ flat_map text entries

-- each call puts the text of its entry
abbrev pub PutsEach : {P O X T E : Type 0} → (O → P → OnWay) → (MutBor P → MutBor O → X → Result T E → MutBor P → MutBor O → Type 0) → (X → List ℕ) → Type 0
PutsEach {P} {O} {X} {T} {E} on_way post text =
    (pending pending' : MutBor P) (out out' : MutBor O) (entry : X) (result : Result T E)
    → post pending out entry result pending' out' → PutsText (text entry) (on_way out.now pending.now) (on_way out'.now pending'.now) result
