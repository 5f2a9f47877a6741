-- How many items there are, and when the first and the last are.
use Rattle.std.specs.Prelude.{List, length}
use Rattle.subpage.specs.declared.summary.Summary.{Summary}
use Rattle.subpage.specs.ItemData.{ItemData, first_time, last_time}

abbrev pub summary_of : List ItemData → Summary
summary_of items = record { count = length items; first = first_time items; last = last_time items }
