-- Lanes of a list with the tree of what comes next of them, seen without the tree.
use Rattle.std.specs.Prelude.{◌≡◌, All, length}
use Rattle.subpage.specs.Arrangement.{CpusRise}
use Rattle.time_merge.specs.LaneRows.{HasLayout, parts_of}
use Rattle.split_passes.specs.ListSeen.{ListSeen}
use Rattle.split_passes.specs.declared.list.LaneList.TheInside.{Inside}

abbrev pub list_view : Inside → ListSeen
list_view list = record { layout = list.layout; all = list.pool; fronts = list.fronts.items; tallies = list.tallies.items }

-- They are those of processors whose numbers rise, they have the layout of the list, and there is a slot of the tree, a place and a
-- tally for each.
pub record IsLaneList (list : Inside) : Type 0 where
  pub layouts : All (HasLayout list.layout) list.pool
  pub rise : CpusRise (parts_of list.pool)
  pub slots : length list.nexts ≡ length list.pool
  pub fronts_long : length list.fronts.items ≡ length list.pool
  pub tallies_long : length list.tallies.items ≡ length list.pool
