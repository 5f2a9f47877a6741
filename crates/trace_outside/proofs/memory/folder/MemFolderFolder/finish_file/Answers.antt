use Rattle.std.proofs.Common.{rules}
use Rattle.trace_outside.proofs.memory.folder.MemFolderFolder.finish_file.Goals as goal
use Rattle.trace_outside.proofs.memory.folder.MemFolderFolder.finish_file.Goals.{in-Ok, in-Err, then-faults-gt0, else-faults-gt0}

pub returns-clause-counts : goal.returns-clause-counts
returns-clause-counts c = elim c.match-push_front.branch [
  | in-Ok w ↦ elim c.if-faults-gt0.branch [ then-faults-gt0 v ↦ search rules | else-faults-gt0 v ↦ search rules ]
  | in-Err w ↦ elim c.if-faults-gt0.branch [ then-faults-gt0 v ↦ search rules | else-faults-gt0 v ↦ search rules ]
]
