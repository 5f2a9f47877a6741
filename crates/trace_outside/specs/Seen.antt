-- What a file and a folder show at one moment.
use Rattle.std.specs.Prelude.{Option, List, ℕ}
use Rattle.trace_outside.specs.declared.counts.Counts.{Counts}
use Rattle.trace_outside.specs.declared.outside.File as file_trait
use Rattle.trace_outside.specs.declared.outside.Folder as folder_trait
use Rattle.trace_outside.specs.Names.{NamedFiles}

-- a file: its bytes, where it tells them, how many it has, and what it has counted
pub record FileSeen : Type 0 where
  pub bytes : Option (List ℕ)
  pub size : ℕ
  pub faults : ℕ
  pub reads : ℕ

abbrev pub file_seen : {F : Type 0} → file_trait.Ghosts F → F → FileSeen
file_seen f file = record { bytes = f.bytes file; size = f.size file; faults = f.faults file; reads = f.reads file }

-- a folder: its files, where it tells them, what it has counted, and the names that it was asked for, in their order
pub record FolderSeen : Type 0 where
  pub files : Option NamedFiles
  pub counts : Counts
  pub requested : List (List ℕ)

abbrev pub folder_seen : {F In Out : Type 0} → folder_trait.Ghosts F In Out → F → FolderSeen
folder_seen f folder = record { files = f.files folder; counts = f.counts folder; requested = f.requested folder }
