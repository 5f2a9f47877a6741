use Rattle.std.proofs.Common.{arith}
use Rattle.trace_outside.specs.Seen.{file_seen}
use Rattle.restore_tool.proofs.FilesBehind.{one_copied}
use Rattle.restore_tool.proofs.copying.copy_file.Goals as goal

pub returns-in-Ok-clause-gained : goal.returns-in-Ok-clause-gained
returns-in-Ok-clause-gained g c =
    one_copied _ (file_seen g.F.File c.args.file.now) _ _ _ c.copy_rest.result (g.met.F.File.size_is c.args.file.now) c.in-Ok.ensures.gained c.copy_rest.ensures.copies

pub returns-in-Ok-clause-keeps : goal.returns-in-Ok-clause-keeps
returns-in-Ok-clause-keeps g c = record {
  bytes = c.copy_rest.ensures.keeps.bytes;
  size = c.copy_rest.ensures.keeps.size;
  faults = c.copy_rest.ensures.keeps.later;
  reads = omega (arith, c.copy_rest.ensures.reads);
}
