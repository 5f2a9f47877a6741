use Rattle.std.proofs.Common.{◌≡◌, ◌≤◌, ◌-◌, length}
use Rattle.std.specs.List.{All}
use Rattle.dat_header.specs.Allowed.{IsSystem}
use Rattle.dat_header.specs.ItemsAt.{each_system_at, system_at}
use Rattle.trace_outside.specs.Seen.{file_seen}
use Rattle.dat_header.proofs.Rows.{GoesOn, row_from}
use Rattle.dat_header.proofs.carried.read_each_system.Given as goal

abbrev pub invariant-loop-done : goal.invariant-loop-done
invariant-loop-done g l = record {
  goes_on : GoesOn (λ bytes. each_system_at l.count l.order bytes l.at) l.at (file_seen g.F.File l.initial.file)
      (λ bytes. row_from (system_at l.order) l.systems.items (l.count - l._done) l.place bytes) l.place (file_seen g.F.File l.file);
  inside : l.place ≤ g.F.File.size l.file;
  counted : length l.systems.items ≡ l._done;
  each : All IsSystem l.systems.items;
}
