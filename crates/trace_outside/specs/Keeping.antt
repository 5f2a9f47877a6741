-- What a call over a file or a sink leaves as it was. A clause has the members of a bound `F: File` as F.File, and those of
-- `O: Sink` as O.Sink.
use Rattle.std.specs.Prelude.{◌≡◌, ◌≤◌}
use Rattle.trace_outside.specs.declared.outside.File as file
use Rattle.trace_outside.specs.declared.outside.Sink as sink

-- the file has the bytes and the size that it had, and its count of faults did not fall
pub record KeepsFile {F : Type 0} (f : file.Ghosts F) (before now : F) : Type 0 where
  pub bytes : f.bytes now ≡ f.bytes before
  pub size : f.size now ≡ f.size before
  pub later : f.faults before ≤ f.faults now

-- the sink has the name that it had, and its count of faults did not fall
pub record KeepsSink {O : Type 0} (o : sink.Ghosts O) (before now : O) : Type 0 where
  pub name : o.name now ≡ o.name before
  pub later : o.faults before ≤ o.faults now
