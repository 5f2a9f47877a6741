-- The inputs of a report of several files as they are opened one by one, up to the first that cannot be shown.
use Rattle.std.specs.Prelude.{Ok, Err, ◌≡◌, ◌+◌, ◌≤◌, ℕ, List, [], ◌∷◌, length, map, sum_by, IfSome, IsSome}
use Rattle.std.specs.List.{All}
use Rattle.trace_outside.specs.declared.counts.Counts.{Counts}
use Rattle.trace_outside.specs.Causes.{Rose, raised}
use Rattle.trace_outside.specs.Folders.{misses_after}
use Rattle.trace_outside.specs.Memory.{KeepsFaults}
use Rattle.trace_outside.specs.Names.{NamedFiles}
use Rattle.trace_outside.specs.Open.{OpensMany}
use Rattle.dat_header.specs.Header.{IsRefusal}
use Rattle.subpage.specs.WithBytes.{with_bytes}
use Rattle.time_merge.specs.LaneRows.{parts_of}
use Rattle.multi_report.specs.Order.{ShownFile}
use Rattle.multi_report.specs.Sources.{SourceView, shown_of, IsFreshSource}
use Rattle.new_files.specs.Requested.{AskedAll}
use Rattle.trace_args.specs.Command.{ReportData}
use Rattle.run_endings.specs.declared.status.Status.{Status}
use Rattle.run_endings.specs.declared.status.Status.TheVariants.{Refused, ReadFault, NoMemory}
use Rattle.run_endings.specs.Progress.{parts_size}
use Rattle.several_report.specs.Inputs.{input_share, NamedInput, shown_in, input_named, inputs_in}
use Rattle.run_endings.specs.Outside.{FolderSeen}

-- a file without the parts that have no bytes, for which there are no lanes
abbrev pub without_empty : ShownFile → ShownFile
without_empty file = record file { parts = with_bytes file.parts }

-- what was read of a source, and what its parts have
abbrev pub reads_due : SourceView → ℕ
reads_due source = source.reads + parts_size (parts_of source.lanes)

-- the source is the input of this name, of which no more than the header was read
pub record IsInput (words : ReportData) (files : NamedFiles) (name : List ℕ) (source : SourceView) : Type 0 where
  pub input : NamedInput
  pub read : input_named files name ≡ Ok input
  pub told : IsSome source.told
  pub shown : shown_of source ≡ without_empty (shown_in words input)
  pub reads : reads_due source ≤ input_share words input

-- the sources are the inputs of these names, in their order
pub record AreInputs (words : ReportData) (files : NamedFiles) (names : List (List ℕ)) (sources : List SourceView) : Type 0 where
  pub inputs : List NamedInput
  pub read : inputs_in files names ≡ Ok inputs
  pub told : All (λ source. IsSome source.told) sources
  pub shown : map shown_of sources ≡ map without_empty (map (shown_in words) inputs)
  pub reads : sum_by reads_due sources ≤ sum_by (input_share words) inputs

-- no read of a source failed since it was opened
abbrev pub IsFaultless : SourceView → Type 0
IsFaultless source = source.faults ≡ 0

-- the folder was asked for a file of this name: no file changed, and a miss is counted where there is none
pub record AskedFor (name : List ℕ) (before now : FolderSeen) : Type 0 where
  pub files : now.files ≡ before.files
  pub requested : AskedAll (name ∷ []) before.requested now.requested
  pub misses : IfSome before.files (λ files. now.counts.misses ≡ misses_after files name before.counts.misses)

-- So many files are left open of those that were opened, which are at most so many: all others were closed again.
pub record LeavesHeld (held most : ℕ) (before now : Counts) : Type 0 where
  pub reading : before.reading ≤ now.reading
  pub created : now.created ≡ before.created
  pub count : ℕ
  pub few : held + count ≤ most
  pub opened : now.opened ≡ raised before.opened (held + count)
  pub closed : now.closed ≡ raised before.closed count

-- The input of this name was opened, and stands before its first item. No fault was counted.
pub record IsOpened (words : ReportData) (name : List ℕ) (source : SourceView) (before now : FolderSeen) : Type 0 where
  pub asked : AskedFor name before now
  pub counts : OpensMany before.counts now.counts 1
  pub kept : KeepsFaults before.counts now.counts
  pub fresh : IsFreshSource source
  pub faultless : IsFaultless source
  pub input : IfSome before.files (λ files. IsInput words files name source)

-- why an input cannot be shown: its bytes begin with no header, it is missing or a read failed, or there was no memory
abbrev pub WhyUnopened : List ℕ → Status → FolderSeen → FolderSeen → Type 0
WhyUnopened name (Refused fault) before now =
    IsRefusal fault × IfSome before.files (λ files. input_named files name ≡ Err (record { name = name; status = Refused fault }))
WhyUnopened name ReadFault before now = Rose before.counts.reading now.counts.reading
WhyUnopened name NoMemory before now = KeepsFaults before.counts now.counts
WhyUnopened name status before now = ⊥

-- The input of this name could not be shown for that reason, and is not open.
pub record IsUnopened (name : List ℕ) (status : Status) (before now : FolderSeen) : Type 0 where
  pub asked : AskedFor name before now
  pub counts : LeavesHeld 0 1 before.counts now.counts
  pub reason : WhyUnopened name status before now

-- The inputs of these names were opened in their order, and all stand before their first items. No fault was counted.
pub record AreOpened (words : ReportData) (names : List (List ℕ)) (sources : List SourceView) (before now : FolderSeen) : Type 0 where
  pub fresh : All IsFreshSource sources
  pub count : length sources ≡ length names
  pub files : now.files ≡ before.files
  pub counts : OpensMany before.counts now.counts (length sources)
  pub faultless : All IsFaultless sources
  pub kept : KeepsFaults before.counts now.counts
  pub requested : AskedAll names before.requested now.requested
  pub inputs : IfSome before.files (λ files. AreInputs words files names sources)
  pub misses : IfSome before.files (λ files. now.counts.misses ≡ before.counts.misses)
