use Rattle.std.proofs.Common.{◌≡◌, ◌≤◌, ◌-◌}
use Rattle.dat_header.specs.Allowed.{IsSystemName}
use Rattle.dat_header.specs.ItemsAt.{name_at}
use Rattle.trace_outside.specs.Seen.{file_seen}
use Rattle.dat_header.proofs.Rows.{GoesOn, name_from}
use Rattle.dat_header.proofs.items.read_name.Given as goal

abbrev pub invariant-loop-name : goal.invariant-loop-name
invariant-loop-name g l = record {
  goes_on : GoesOn (λ bytes. name_at bytes l.at) l.at (file_seen g.F.File l.initial.file)
      (λ bytes. name_from l.name.items l.place bytes) l.place (file_seen g.F.File l.file);
  size : g.F.File.size l.file ≡ g.F.File.size l.initial.file;
  inside : l.place ≤ g.F.File.size l.file;
  allowed : IsSystemName l.name.items;
}

abbrev pub decreases-loop-name : goal.decreases-loop-name
decreases-loop-name g l = g.F.File.size l.file - l.place
