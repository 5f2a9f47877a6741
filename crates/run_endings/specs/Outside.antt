-- What is seen of the outside at one moment: a folder, and the output beside it.
use Rattle.std.specs.Prelude.{Option, ℕ, List}
use Rattle.trace_outside.specs.declared.outside.Folder as folder_trait
use Rattle.trace_outside.specs.declared.outside.Sink as sink_trait
pub use Rattle.trace_outside.specs.Seen.{FolderSeen, folder_seen}

pub record SinkSeen : Type 0 where
  pub written : Option (List ℕ)
  pub faults : ℕ

pub record Outside : Type 0 where
  pub folder : FolderSeen
  pub out : SinkSeen

abbrev pub sink_seen : {O : Type 0} → sink_trait.Ghosts O → O → SinkSeen
sink_seen o out = record { written = o.written out; faults = o.faults out }

-- a folder beside an output
abbrev pub beside : FolderSeen → SinkSeen → Outside
beside folder out = record { folder = folder; out = out }

abbrev pub outside_seen : {F In Out O : Type 0} → folder_trait.Ghosts F In Out → sink_trait.Ghosts O → F → O → Outside
outside_seen f o folder out = beside (folder_seen f folder) (sink_seen o out)
