-- An element that borrows its payload, as plain data.
use Rattle.std.specs.Prelude.{ℕ, List}
use denote.Ref.{Bor}
use Rattle.subpage.specs.declared.element.Element.{Element}
use Rattle.subpage.specs.declared.element.Element.TheVariants as code
use Rattle.subpage.specs.Element.{ElementData, Event, End, Discarded, Extend, Stamp}

abbrev pub element_view : Element → ElementData
element_view (code.Event delta payload) = Event delta payload.now
element_view code.End = End
element_view (code.Discarded delta) = Discarded delta
element_view (code.Extend delta) = Extend delta
element_view (code.Stamp time) = Stamp time

-- an element, and the bytes after it
abbrev pub split_view : Element × Bor (List ℕ) → ElementData × List ℕ
split_view x = (element_view x.0, x.1.now)
