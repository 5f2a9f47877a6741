-- A lane of a file, one item on.
use Rattle.std.specs.Prelude.{◌≡◌, ℕ, ◌<◌, slice_set, slice_index_or}
use Rattle.page_pool.specs.declared.lane.Lane.{Lane}
use Rattle.event_cursor.specs.Stepping.{IsStepped}
use Rattle.multi_report.specs.Sources.{SourceView, unread_of, work}

-- One lane used up the item that it held. All else is as it was.
pub record IsLaneStepped (before : SourceView) (i : ℕ) (now : SourceView) : Type 0 where
  pub lane : Lane
  pub lanes : now.lanes ≡ slice_set before.lanes i lane
  pub stepped : (d : Lane) → IsStepped (slice_index_or before.lanes i d) lane
  pub name : now.name ≡ before.name
  pub cpus : now.cpus ≡ before.cpus
  pub layout : now.layout ≡ before.layout
  pub text : now.text ≡ before.text
  pub told : now.told ≡ before.told
  pub size : now.size ≡ before.size
  pub faults : now.faults ≡ before.faults
  pub reads : now.reads ≡ before.reads
  pub unread : unread_of now ≡ unread_of before
  pub less : work now < work before
