-- Several files that are gone through at once, each with its lanes.
use Rattle.std.specs.Prelude.{◌≡◌, ◌<◌, ◌≤◌, ℕ, List, [], length, map, slice_index_or, Option, IsSome, unwrap_or, sum_by}
use Rattle.std.specs.List.{All}
use Rattle.tournament_tree.specs.declared.slot_key.SlotKey.{SlotKey}
use Rattle.trace_base.specs.declared.layout.Layout.{Layout}
use Rattle.trace_outside.specs.Causes.{raised}
use Rattle.trace_outside.specs.declared.outside.File as file
use Rattle.line_holes.specs.Holes.{LineText}
use Rattle.subpage.specs.ItemData.{ItemData}
use Rattle.subpage.specs.Arrangement.{Keyed, key_of, cpu_of}
use Rattle.subpage.specs.Cut.{Cut}
use Rattle.page_pool.specs.declared.lane.Lane.{Lane}
use Rattle.page_pool.specs.Fresh.{IsFresh}
use Rattle.event_cursor.specs.Standing.{Stands, most_left}
use Rattle.time_merge.specs.Rows.{Row, bound_of, coming, least_cut}
use Rattle.time_merge.specs.LaneRows.{HasLayout, parts_of, rows_of, to_come}
use Rattle.time_merge.specs.Reads.{all_unread}
use Rattle.time_merge.specs.declared.readiness.Readiness.{Readiness}
use Rattle.time_merge.specs.declared.readiness.Readiness.TheVariants.{Ready}
use Rattle.multi_report.specs.declared.source.Source.{Source}
use Rattle.multi_report.specs.Order.{ShownFile, FileItem, key_in, file_in, numbered}
use Rattle.multi_report.specs.Merge.{row_with}

-- a source at one moment
pub record SourceView : Type 0 where
  pub name : List ℕ
  pub cpus : ℕ
  pub layout : Layout
  pub text : ℕ → ItemData → LineText
  pub told : Option (List ℕ)
  pub size : ℕ
  pub faults : ℕ
  pub reads : ℕ
  pub lanes : List Lane
  pub readiness : Readiness

abbrev pub seen : {F L : Type 0} → file.Ghosts F → (L → ℕ → ItemData → LineText) → Source F L → SourceView
seen f text source = record {
  name = source.name.now;
  cpus = source.cpus;
  layout = source.lanes.layout;
  text = text source.form;
  told = f.bytes source.file;
  size = f.size source.file;
  faults = f.faults source.file;
  reads = f.reads source.file;
  lanes = source.lanes.all;
  readiness = source.lanes.readiness;
}

-- its lanes stand before their first items
abbrev pub IsFreshSource : SourceView → Type 0
IsFreshSource source = All (λ lane. IsFresh lane.cursor) source.lanes

-- a buffer of this length has room for each line of a file
abbrev pub HasRoom : ℕ → SourceView → Type 0
HasRoom room source = (cpu : ℕ) (item : ItemData) → length (source.text cpu item).bytes ≤ room

-- the bytes of a file that tells them
abbrev pub bytes_of : SourceView → List ℕ
bytes_of source = unwrap_or source.told []

-- its lanes have its layout
abbrev pub HasOwnLayouts : SourceView → Type 0
HasOwnLayouts source = All (HasLayout source.layout) source.lanes

-- it tells its bytes, and its lanes have its layout and stand where they should
pub record IsKnown (source : SourceView) : Type 0 where
  pub told : IsSome source.told
  pub layouts : HasOwnLayouts source
  pub stands : All (Stands (bytes_of source)) source.lanes

-- what is shown of its file
abbrev pub shown_of : SourceView → ShownFile
shown_of source = record {
  name = source.name;
  cpus = source.cpus;
  layout = source.layout;
  bytes = bytes_of source;
  parts = parts_of source.lanes;
  text = source.text;
}

-- the bytes that were not read of the parts of a source's lanes
abbrev pub unread_of : SourceView → ℕ
unread_of source = all_unread source.size source.lanes

-- its count of bytes once all of these are read
abbrev pub due : SourceView → ℕ
due source = raised source.reads (unread_of source)

-- It is the same file, its count of faults did not fall, and no more was read than had not been read before.
pub record IsSame (before now : SourceView) : Type 0 where
  pub shown : shown_of now ≡ shown_of before
  pub told : now.told ≡ before.told
  pub size : now.size ≡ before.size
  pub faults : before.faults ≤ now.faults
  pub reads : now.reads ≤ due before

-- no more of a file was read than the parts of its lanes have
abbrev pub ReadsItsParts : SourceView → SourceView → Type 0
ReadsItsParts before now = now.reads ≤ raised before.reads (sum_by (λ part. part.1.size) (parts_of before.lanes))

-- the items that a file has left
abbrev pub left_in : SourceView → List Keyed
left_in source = to_come (bytes_of source) source.lanes

-- and the cut that ends them, if there is one
abbrev pub cut_left : SourceView → Option Cut
cut_left source = least_cut (rows_of (bytes_of source) source.lanes)

-- both as a row
abbrev pub left_row : ℕ × SourceView → Row FileItem
left_row source = row_with source.0 (left_in source.1) (cut_left source.1)

-- what comes next of a file: its first item's key, or that of its cut
abbrev pub next_key : SourceView → SlotKey
next_key source = bound_of key_of cpu_of (left_in source) (cut_left source)

-- what all files have left, in its order
unfoldable pub to_come_of : List SourceView → List FileItem
to_come_of sources = coming key_in file_in (map left_row (numbered sources))

-- no more items than this are left, whatever the file
abbrev pub work : SourceView → ℕ
work source = sum_by most_left source.lanes

-- all its lanes are ready
abbrev pub IsPrepared : SourceView → Type 0
IsPrepared source = source.readiness ≡ Ready

-- Nothing of the file was used up, whether its lanes are ready now or a read failed.
pub record Keeps (before now : SourceView) : Type 0 where
  pub same : IsSame before now
  pub most : work now ≤ work before
  pub rows : IsKnown before
      → rows_of (bytes_of now) now.lanes ≡ rows_of (bytes_of before) before.lanes
  pub known : IsKnown before → IsKnown now

-- Its lanes are ready, and what was read of it is not to be read again.
pub record IsReadied (before now : SourceView) : Type 0 where
  pub prepared : IsPrepared now
  pub due : due now ≤ due before

-- so are several files, one by one
abbrev pub AllKeep : List SourceView → List SourceView → Type 0
AllKeep before now = (i : ℕ) (d : SourceView) → i < length before → Keeps (slice_index_or before i d) (slice_index_or now i d)
