use Rattle.std.proofs.Common.{◌≡◌, ◌≤◌, ◌-◌, ◌<◌, ◌^◌, length}
use Rattle.std.specs.List.{All}
use Rattle.dat_header.specs.ItemsAt.{texts_at, text_at}
use Rattle.trace_outside.specs.Seen.{file_seen}
use Rattle.dat_header.proofs.Rows.{GoesOn, row_from}
use Rattle.dat_header.proofs.carried.read_texts.Given as goal

abbrev pub invariant-loop-done : goal.invariant-loop-done
invariant-loop-done g l = record {
  goes_on : GoesOn (λ bytes. texts_at l.count l.order bytes l.at) l.at (file_seen g.F.File l.initial.file)
      (λ bytes. row_from (text_at 8 l.order) l.texts.items (l.count - l._done) l.place bytes) l.place (file_seen g.F.File l.file);
  inside : l.place ≤ g.F.File.size l.file;
  counted : length l.texts.items ≡ l._done;
  sized : All (λ text. length text < 2 ^ 64) l.texts.items;
}
