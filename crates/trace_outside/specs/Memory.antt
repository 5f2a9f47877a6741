-- What is set for the objects in memory, how often they were called and how often they found no memory, and how their calls
-- fail: just where a fault was set for them, a name is missing, or memory was wanting.
use Rattle.std.specs.Prelude.{ℕ, Bool, not, ◌||◌, ◌&&◌, ◌==◌, Option, None, Result, ◌≡◌, List, IfSome, MatchOption, MatchBool, IsErr, nat_lt, if◌then◌else◌}
use Rattle.std.specs.FinMap.{get}
use Rattle.trace_outside.specs.declared.counts.Counts.{Counts}
use Rattle.trace_outside.specs.Causes.{raised, FailsJustThere}
use Rattle.trace_outside.specs.Faults.{is_failing, is_from, due_after}
use Rattle.trace_outside.specs.Names.{NamedFiles}
use Rattle.trace_outside.specs.declared.memory.faults.Settings.{Settings}
use Rattle.trace_outside.specs.declared.memory.faults.Calls.{Calls}
use Rattle.trace_outside.specs.declared.memory.file.MemFile.{MemFile}
use Rattle.trace_outside.specs.declared.memory.sink.MemSink.{MemSink}
use Rattle.trace_outside.specs.declared.memory.folder.MemFolder.{MemFolder}

-- the byte at which the file's reads fail
abbrev pub file_fault : MemFile → Option ℕ
file_fault file = file.fault

-- how many bytes a read of the file gives at most
abbrev pub file_limit : MemFile → Option ℕ
file_limit file = file.limit

-- how many calls of the sink found no memory
abbrev pub sink_wants : MemSink → ℕ
sink_wants sink = sink.wants

-- how often the sink was written to
abbrev pub sink_writes : MemSink → ℕ
sink_writes sink = sink.writes

-- how many bytes a write to the sink takes at most
abbrev pub sink_limit : MemSink → Option ℕ
sink_limit sink = sink.limit

-- the number from which on the sink's writes fail
abbrev pub sink_from : MemSink → Option ℕ
sink_from sink = sink.from

-- the number of the one write of the sink that its folder lets fail
abbrev pub sink_due : MemSink → Option ℕ
sink_due sink = sink.due

-- whether a fault is set for the sink's write of this number, of so many bytes; a write of none does not fail
abbrev pub write_fails : MemSink → ℕ → ℕ → Bool
write_fails sink number count = not (count == 0) && (is_from sink.from number || is_failing sink.due number)

-- how many calls of the folder, and of the sinks that it took back, found no memory
abbrev pub folder_wants : MemFolder → ℕ
folder_wants folder = folder.wants

-- what is set for the folder's calls, and for the files and sinks that it gives
abbrev pub folder_set : MemFolder → Settings
folder_set folder = folder.set

-- how many calls of each kind the folder, and the sinks that it took back, had
abbrev pub folder_calls : MemFolder → Calls
folder_calls folder = folder.calls

-- so many more calls of each kind
pub record CountsCalls (opens creates writes finishes : ℕ) (before now : Calls) : Type 0 where
  pub opened : now.opens ≡ raised before.opens opens
  pub created : now.creates ≡ raised before.creates creates
  pub written : now.writes ≡ raised before.writes writes
  pub finished : now.finishes ≡ raised before.finishes finishes

-- a call for which a fault is set fails without a want, and any other just where memory was wanted
abbrev pub FailsAsSet : {T E : Type 0} → Bool → ℕ → ℕ → Result T E → Type 0
FailsAsSet fails before now result = MatchBool fails ((now ≡ before) × IsErr result) (FailsJustThere before now result)

-- a name that is missing fails without a want, and one that is there as it is set
abbrev pub OpensAsSet : {T E : Type 0} → Option NamedFiles → List ℕ → Bool → ℕ → ℕ → Result T E → Type 0
OpensAsSet told name fails before now result =
    IfSome told (λ files. MatchOption (get files name) ((now ≡ before) × IsErr result) (λ _. FailsAsSet fails before now result))

-- a file just opened has what is set for the folder
pub record IsSetFile (set : Settings) (file : MemFile) : Type 0 where
  pub fault : file.fault ≡ set.byte
  pub limit : file.limit ≡ set.limit

-- a sink just created, after others with so many writes, has what is set for the folder
pub record IsSetSink (set : Settings) (before : ℕ) (sink : MemSink) : Type 0 where
  pub due : sink.due ≡ due_after set.write before
  pub from : sink.from ≡ None
  pub limit : sink.limit ≡ set.limit
  pub writes : sink.writes ≡ 0

-- what is set for the sink is as it was
pub record SetAsBefore (before now : MemSink) : Type 0 where
  pub due : now.due ≡ before.due
  pub from : now.from ≡ before.from
  pub limit : now.limit ≡ before.limit

-- no count of faults moved
pub record KeepsFaults (before now : Counts) : Type 0 where
  pub reading : now.reading ≡ before.reading
  pub writing : now.writing ≡ before.writing

-- the count of faults of reading rose just where the call failed, and that of writing did not move
pub record FailsReading {T E : Type 0} (before now : Counts) (result : Result T E) : Type 0 where
  pub reading : FailsJustThere before.reading now.reading result
  pub writing : now.writing ≡ before.writing

-- the count of faults of writing rose just where the call failed, and that of reading did not move
pub record FailsWriting {T E : Type 0} (before now : Counts) (result : Result T E) : Type 0 where
  pub reading : now.reading ≡ before.reading
  pub writing : FailsJustThere before.writing now.writing result

-- the counts with the faults of a file that was taken back: one more where it had any
abbrev pub with_read_faults : ℕ → Counts → Counts
with_read_faults faults counts = record counts { reading = if nat_lt 0 faults then raised counts.reading 1 else counts.reading }

-- the counts with the faults of a sink that was taken back: one more where it had any
abbrev pub with_faults : ℕ → Counts → Counts
with_faults faults counts = record counts { writing = if nat_lt 0 faults then raised counts.writing 1 else counts.writing }
