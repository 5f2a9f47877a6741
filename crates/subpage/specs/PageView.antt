-- A sub-buffer that was checked, seen as its items.
use Rattle.std.specs.Prelude.{◌≡◌, List}
use Rattle.subpage.specs.declared.page.Page.TheInside.{Inside}
use Rattle.subpage.specs.ItemData.{ItemData}
use Rattle.subpage.specs.Marks.{IsMark, items_from}
use Rattle.subpage.specs.Summary.{summary_of}

abbrev pub items_of : Inside → List ItemData
items_of page = items_from page.layout page.bytes.now page.first

pub record WasChecked (page : Inside) : Type 0 where
  pub readable : IsMark page.layout page.bytes.now page.first
  pub summary_is : page.summary ≡ summary_of (items_of page)
