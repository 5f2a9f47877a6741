-- The iterator, seen as the items that it has left.
use Rattle.std.specs.Prelude.{List}
use Rattle.subpage.specs.declared.items.Items.TheInside.{Inside}
use Rattle.subpage.specs.ItemData.{ItemData}
use Rattle.subpage.specs.Marks.{IsMark, items_from}

abbrev pub items_left : Inside → List ItemData
items_left s = items_from s.layout s.page.now s.mark

abbrev pub CanBeRead : Inside → Type 0
CanBeRead s = IsMark s.layout s.page.now s.mark
